mod SameShards
mod Shown
mod Allowed
