mod Granted
mod SettingData
mod SharedData
