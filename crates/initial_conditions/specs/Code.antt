-- Numbers name by name, the facts of an array in two parts, and the arrays of a fact.
pub mod Numbers
pub mod Elements
pub mod Arrays
