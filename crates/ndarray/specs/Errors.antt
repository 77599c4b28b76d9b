-- Errors of shapes.
use Rattle.std.specs.Prelude.{ℕ, List, codes}
use Rattle.ndarray.specs.declared.base.error.ErrorKind.{ErrorKind}
use Rattle.ndarray.specs.declared.base.error.ErrorKind.TheVariants.{IncompatibleShape, IncompatibleLayout, RangeLimited, OutOfBounds, Unsupported, Overflow}
use Rattle.ndarray.specs.declared.base.error.ShapeError.{ShapeError}

-- the error of a kind
abbrev pub shape_error : ErrorKind → ShapeError
shape_error k = record { kind = k }

-- what is written of a kind
abbrev pub kind_text : ErrorKind → List ℕ
kind_text IncompatibleShape = codes "ShapeError/IncompatibleShape: incompatible shapes"
kind_text IncompatibleLayout = codes "ShapeError/IncompatibleLayout: incompatible memory layout"
kind_text RangeLimited = codes "ShapeError/RangeLimited: the shape does not fit in type limits"
kind_text OutOfBounds = codes "ShapeError/OutOfBounds: out of bounds indexing"
kind_text Unsupported = codes "ShapeError/Unsupported: unsupported operation"
kind_text Overflow = codes "ShapeError/Overflow: arithmetic overflow"

-- what is written of an error
abbrev pub shape_error_text : ShapeError → List ℕ
shape_error_text e = kind_text e.kind
