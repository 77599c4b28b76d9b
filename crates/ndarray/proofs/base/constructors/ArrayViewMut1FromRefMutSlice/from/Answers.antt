use Rattle.std.proofs.Common.{◌^◌, ◌-◌, ◌∙◌, ap, arith, length, min, refl}
use Rattle.std.specs.Prelude.{slice_get, ⊤}
use Rattle.std.proofs.lemmas.List.{take_all, take_min}
use Rattle.ndarray.specs.Grid.{one_axis}
use Rattle.ndarray.proofs.strides.OneAxisSlices.{Reaches-one_axis, grid-one_axis}
use Rattle.ndarray.proofs.base.constructors.ArrayViewMut1FromRefMutSlice.from.Goals as goal

pub into_view-requires : goal.into_view-requires
into_view-requires g c =
    let xs = c.args.slice.now in
    rw (c.one_axis_layout-layout.ensures.start, c.one_axis_layout-layout.ensures.dim, c.one_axis_layout-layout.ensures.strides) (Reaches-one_axis (slice_get xs) xs (λ _. refl) (min (2 ^ 63 - 1) (length xs)) (omega arith) (omega arith) ⊤)

pub returns-clause-limited : goal.returns-clause-limited
returns-clause-limited g c =
    let xs = c.args.slice.now in
    c.into_view.ensures.same
    ∙ rw (c.one_axis_layout-layout.ensures.start, c.one_axis_layout-layout.ensures.dim, c.one_axis_layout-layout.ensures.strides) (grid-one_axis (slice_get xs) xs (λ _. refl) (min (2 ^ 63 - 1) (length xs)) (omega arith) (omega arith) ∙ ap one_axis (take_min (2 ^ 63 - 1) xs))

pub returns-clause-cells : goal.returns-clause-cells
returns-clause-cells g c = λ few. returns-clause-limited g c ∙ ap one_axis (take_all (2 ^ 63 - 1) c.args.slice.now (omega arith))
