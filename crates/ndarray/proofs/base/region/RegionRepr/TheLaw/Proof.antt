-- A `&` to a region reaches each value. Assumes `Logic`.
use mathlib.Core.List.{[], ◌++◌}
use base.Fml.{Incl, Incl-trans}
use contract.BorrowLft.{meet_⊑_left, meet_⊑_right}
use denote.RattleType.{RattleType}
use denote.Param.Laws.{Laws}
use denote.Param.Shared.{copy_shared}
use denote.Struct.Laws.{field_copy}
use denote.Struct.Lending.{of_Lends}
use Rattle.core.specs.contracts.marker.PhantomData as P
use Rattle.ndarray.specs.contracts.base.region.RegionRepr as C
use Rattle.ndarray.specs.contracts.base.region.SharedRegion as S
use Rattle.ndarray.proofs.base.region.SharedRegion.TheLaws as S-laws
use Rattle.ndarray.proofs.base.region.RegionRepr.TheLaw.Statement.{statement}
use Rattle.ndarray.proofs.regions.Sharing.{region_lent_laws, Lends-region}

pub shares : (a : RattleType) (T : RattleType) (La : Laws a) (L : Laws T) → statement a T La L
shares a T La L = of_Lends (C.struct a T) (C.the_codes a.Denot T.Denot a.coded T.coded (S.the_row T).coded (P.the_row a).coded) (C.the_heap a T) (C.the_lent a T)
    (λ d p. region_lent_laws T L.shr_laws a.lives d.shared.ptr d.slots)
    (S-laws.the_field_shared T L, (copy_shared (P.the_field a) (field_copy (P.the_type a) tt), tt))
    (λ M 𝓤 𝓛 d p.
    let l = (C.the_row a T).lives in let left : Incl l (a.lives ++ (T.lives ++ [])) = meet_⊑_left (a.lives ++ (T.lives ++ [])) _ in
    Lends-region 𝓛 a.lives l T L (Incl-trans left (Incl-trans (meet_⊑_right a.lives (T.lives ++ [])) (meet_⊑_left T.lives []))) (Incl-trans left (meet_⊑_left a.lives (T.lives ++ []))) d.shared.ptr d.name d.slots)
