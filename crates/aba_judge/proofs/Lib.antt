mod KnownCoins
mod Allowed
