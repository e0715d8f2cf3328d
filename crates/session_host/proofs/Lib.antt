mod BetweenThreads
mod Counting
mod Replying
mod Seeing
mod Talked
mod Tracing
mod Visiting
