-- The index lists of a box, and where they stand in an order.

-- an index list in a box is as long as its lengths, has each index below its length, and stays in it where a length and an index are set
pub use Rattle.ndarray.proofs.boxes.Boxes.{InBox-get, InBox-length, InBox-set_both}
-- the list of a box in an order is the box in that order, has as many index lists as its size, all in the box, each at its rank; no index list
-- is before itself
pub use Rattle.ndarray.proofs.boxes.Orders.{IsBefore-not_itself, box_in-at, box_in-is, box_in-within, length-box_in, rank_in-lt}
