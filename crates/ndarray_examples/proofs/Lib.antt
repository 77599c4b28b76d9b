mod BestCells
mod ConvolutionsInTurn
mod DifferencesOfSums
mod DotsOfThree
mod KroneckersOfThree
mod LowerMatrices
mod MadeTriangles
pub mod PairedProducts
mod ProductsInTurn
mod RowsOfMatrices
mod SameValues
mod SumsOfMatrices
