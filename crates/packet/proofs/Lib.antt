pub mod BaseCommands
