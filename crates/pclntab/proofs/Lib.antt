mod TextLemmas
mod PcLemmas
mod RangeLemmas
mod SearchLemmas
mod StockLemmas
mod FuncLemmas
mod LengthLemmas
pub mod FaultLemmas
mod ReadLemmas
mod HeaderLemmas
mod RowLemmas
mod BoundLemmas
mod TellLemmas
pub mod WorkedLemmas
mod Examples
