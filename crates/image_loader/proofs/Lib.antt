mod Readers
mod Entries
mod Nodes
mod Tallies
mod Building
mod Images
mod Roots
