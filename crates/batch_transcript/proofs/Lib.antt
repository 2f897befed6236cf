mod Numbered
mod Widest
mod Laid
