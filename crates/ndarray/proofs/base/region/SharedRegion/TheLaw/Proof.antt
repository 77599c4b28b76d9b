-- A `&` to one that is owned reaches no places. Assumes `Logic`.
use denote.RattleType.{RattleType}
use denote.Param.Laws.{Laws}
use denote.Param.Shared.{copy_shared}
use denote.Struct.Field.{RawPtr-field}
use denote.Struct.Laws.{RawPtr-copy, field_copy}
use denote.Struct.Lending.{of_Lends}
use Rattle.core.specs.contracts.marker.PhantomData as P
use Rattle.ndarray.specs.contracts.base.region.SharedRegion as C
use Rattle.ndarray.proofs.base.region.SharedRegion.TheLaw.Statement.{statement}
use Rattle.ndarray.proofs.regions.Sharing.{reading_lent_laws, Lends-shared_region}

pub shares : (T : RattleType) (L : Laws T) → statement T L
shares T L = of_Lends (C.struct T) (C.the_codes T.Denot T.coded (P.the_row T).coded) (C.the_heap T) (C.the_lent T)
    (λ d p. reading_lent_laws T L.shr_laws d.ptr d.slots)
    (copy_shared RawPtr-field RawPtr-copy, (copy_shared (P.the_field T) (field_copy (P.the_type T) tt), tt))
    (λ M 𝓤 𝓛 d p. Lends-shared_region 𝓛 (C.the_row T).lives T d.ptr d.slots)
