mod Lines
mod Printed
mod Expressions
