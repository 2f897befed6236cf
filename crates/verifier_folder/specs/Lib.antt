pub mod FolderState
pub mod Laws
