mod Apart
mod Verdicts
