mod Fills
mod Verdicts
