pub mod StormEnds
