mod Profiles
mod Channels
mod Ranges
