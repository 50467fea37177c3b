mod Chunks
mod Firsts
mod Sends
