mod Counting
mod Members
mod Lists
mod Crews
mod Following
mod ToyCrews
