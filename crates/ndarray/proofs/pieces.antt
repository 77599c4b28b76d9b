-- Subviews that cover an array: chunks, windows, lanes and axis items.
pub mod Chunks
pub mod DisjointChunks
pub mod DisjointPieces
pub mod OneAxisWindows
pub mod Pieces
pub mod SomePieces
pub mod Windows
pub mod PieceRows
pub mod TakenPieces
