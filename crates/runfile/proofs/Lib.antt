pub mod WrittenHead
