-- Rows and squares of cells, made from a tested area: Filling (the arcs of one chain in a row).
pub mod Filling
