-- What a reader must believe of the C interface: TableValues and Values (01's numbers and values for each case of an answer), Interface
-- (numbers for the cases of an enum, and two long promises part by part), Versions (the library's version), with the definitions of the
-- crates below that they cite. InterfaceLaws has its laws.
pub mod TableValues
pub mod Values
pub mod Interface
pub mod Versions
pub mod InterfaceLaws
