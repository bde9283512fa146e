mod Calm
mod Measured
mod Words
