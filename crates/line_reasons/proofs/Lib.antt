mod ValueLemmas
mod RowLemmas
mod ObjectLemmas
