pub mod RowLemmas
mod Behind
