mod Accepted
mod Replays
mod Searches
mod Texts
