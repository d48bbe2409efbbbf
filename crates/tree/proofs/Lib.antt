pub mod Tree
pub mod SlotSet
pub mod Taken
pub mod Check
pub mod Need
