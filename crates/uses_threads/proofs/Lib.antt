mod Orders
mod Sides
