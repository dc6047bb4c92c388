-- What the public calls promise is in the crates below, and in host_values what they tell of it. LayoutLaws has the laws of the layout's version.
pub mod LayoutLaws
