pub mod TreeLemmas
