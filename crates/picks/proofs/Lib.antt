-- A law for whoever makes more than one pick: Kept (a tested area stays ready).
pub mod Kept
