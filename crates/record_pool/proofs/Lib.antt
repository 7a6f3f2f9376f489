mod ListLemmas
mod ChainLemmas
mod PoolLemmas
