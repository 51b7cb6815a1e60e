pub mod LiveEnds
