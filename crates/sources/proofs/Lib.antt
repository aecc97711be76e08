pub mod FirstBad
pub mod RowBounds
