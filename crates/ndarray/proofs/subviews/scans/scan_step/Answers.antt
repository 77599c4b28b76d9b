use Rattle.ndarray.proofs.subviews.scans.scan_step.Goals as goal

pub unreachable-requires : goal.unreachable-requires
unreachable-requires g c = let z = c.in_default.ensures.within.1 c.requires.within in cc
