mod Beginnings
mod Entries
mod Submitted
mod NewPosts
mod Closed
mod Emptied
