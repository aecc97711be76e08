pub mod First
pub mod StockLaws
