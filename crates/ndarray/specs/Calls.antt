-- A call of a closure at one to six items, and whether it may be made, as relations to the items as nested pairs. A fold's closure takes
-- the total before them. A call by reference is one at references to the items.
use Rattle.std.specs.Prelude.{◌≡◌}
use Rattle.std.specs.Fn.{Mut, Called}
use denote.Ref.{Bor}

module _ {F X R : Type 0} (g : Mut F (X × Unit {0}) R) where
  abbrev pub can_call1 : F → X → Type 0
  can_call1 f t = g.pre f (t, tt)

  abbrev pub call_gives1 : F → X → R → F → Type 0
  call_gives1 f t r h = Called g f (t, tt) r h

module _ {F X B R : Type 0} (g : Mut F (B × (X × Unit {0})) R) where
  abbrev pub can_call_fold1 : F → B → X → Type 0
  can_call_fold1 f b t = g.pre f (b, (t, tt))

  abbrev pub call_gives_fold1 : F → B → X → R → F → Type 0
  call_gives_fold1 f b t r h = Called g f (b, (t, tt)) r h

module _ {F X Y R : Type 0} (g : Mut F (X × (Y × Unit {0})) R) where
  abbrev pub can_call2 : F → (X × Y) → Type 0
  can_call2 f t = g.pre f (t.0, (t.1, tt))

  abbrev pub call_gives2 : F → (X × Y) → R → F → Type 0
  call_gives2 f t r h = Called g f (t.0, (t.1, tt)) r h

module _ {F X Y B R : Type 0} (g : Mut F (B × (X × (Y × Unit {0}))) R) where
  abbrev pub can_call_fold2 : F → B → (X × Y) → Type 0
  can_call_fold2 f b t = g.pre f (b, (t.0, (t.1, tt)))

  abbrev pub call_gives_fold2 : F → B → (X × Y) → R → F → Type 0
  call_gives_fold2 f b t r h = Called g f (b, (t.0, (t.1, tt))) r h

module _ {F X Y Z R : Type 0} (g : Mut F (X × (Y × (Z × Unit {0}))) R) where
  abbrev pub can_call3 : F → ((X × Y) × Z) → Type 0
  can_call3 f t = g.pre f (t.0.0, (t.0.1, (t.1, tt)))

  abbrev pub call_gives3 : F → ((X × Y) × Z) → R → F → Type 0
  call_gives3 f t r h = Called g f (t.0.0, (t.0.1, (t.1, tt))) r h

module _ {F X Y Z B R : Type 0} (g : Mut F (B × (X × (Y × (Z × Unit {0})))) R) where
  abbrev pub can_call_fold3 : F → B → ((X × Y) × Z) → Type 0
  can_call_fold3 f b t = g.pre f (b, (t.0.0, (t.0.1, (t.1, tt))))

  abbrev pub call_gives_fold3 : F → B → ((X × Y) × Z) → R → F → Type 0
  call_gives_fold3 f b t r h = Called g f (b, (t.0.0, (t.0.1, (t.1, tt)))) r h

module _ {F X Y Z U R : Type 0} (g : Mut F (X × (Y × (Z × (U × Unit {0})))) R) where
  abbrev pub can_call4 : F → (((X × Y) × Z) × U) → Type 0
  can_call4 f t = g.pre f (t.0.0.0, (t.0.0.1, (t.0.1, (t.1, tt))))

  abbrev pub call_gives4 : F → (((X × Y) × Z) × U) → R → F → Type 0
  call_gives4 f t r h = Called g f (t.0.0.0, (t.0.0.1, (t.0.1, (t.1, tt)))) r h

module _ {F X Y Z U B R : Type 0} (g : Mut F (B × (X × (Y × (Z × (U × Unit {0}))))) R) where
  abbrev pub can_call_fold4 : F → B → (((X × Y) × Z) × U) → Type 0
  can_call_fold4 f b t = g.pre f (b, (t.0.0.0, (t.0.0.1, (t.0.1, (t.1, tt)))))

  abbrev pub call_gives_fold4 : F → B → (((X × Y) × Z) × U) → R → F → Type 0
  call_gives_fold4 f b t r h = Called g f (b, (t.0.0.0, (t.0.0.1, (t.0.1, (t.1, tt))))) r h

module _ {F X Y Z U V R : Type 0} (g : Mut F (X × (Y × (Z × (U × (V × Unit {0}))))) R) where
  abbrev pub can_call5 : F → ((((X × Y) × Z) × U) × V) → Type 0
  can_call5 f t = g.pre f (t.0.0.0.0, (t.0.0.0.1, (t.0.0.1, (t.0.1, (t.1, tt)))))

  abbrev pub call_gives5 : F → ((((X × Y) × Z) × U) × V) → R → F → Type 0
  call_gives5 f t r h = Called g f (t.0.0.0.0, (t.0.0.0.1, (t.0.0.1, (t.0.1, (t.1, tt))))) r h

module _ {F X Y Z U V B R : Type 0} (g : Mut F (B × (X × (Y × (Z × (U × (V × Unit {0})))))) R) where
  abbrev pub can_call_fold5 : F → B → ((((X × Y) × Z) × U) × V) → Type 0
  can_call_fold5 f b t = g.pre f (b, (t.0.0.0.0, (t.0.0.0.1, (t.0.0.1, (t.0.1, (t.1, tt))))))

  abbrev pub call_gives_fold5 : F → B → ((((X × Y) × Z) × U) × V) → R → F → Type 0
  call_gives_fold5 f b t r h = Called g f (b, (t.0.0.0.0, (t.0.0.0.1, (t.0.0.1, (t.0.1, (t.1, tt)))))) r h

module _ {F X Y Z U V W R : Type 0} (g : Mut F (X × (Y × (Z × (U × (V × (W × Unit {0})))))) R) where
  abbrev pub can_call6 : F → (((((X × Y) × Z) × U) × V) × W) → Type 0
  can_call6 f t = g.pre f (t.0.0.0.0.0, (t.0.0.0.0.1, (t.0.0.0.1, (t.0.0.1, (t.0.1, (t.1, tt))))))

  abbrev pub call_gives6 : F → (((((X × Y) × Z) × U) × V) × W) → R → F → Type 0
  call_gives6 f t r h = Called g f (t.0.0.0.0.0, (t.0.0.0.0.1, (t.0.0.0.1, (t.0.0.1, (t.0.1, (t.1, tt)))))) r h

module _ {F X Y Z U V W B R : Type 0} (g : Mut F (B × (X × (Y × (Z × (U × (V × (W × Unit {0}))))))) R) where
  abbrev pub can_call_fold6 : F → B → (((((X × Y) × Z) × U) × V) × W) → Type 0
  can_call_fold6 f b t = g.pre f (b, (t.0.0.0.0.0, (t.0.0.0.0.1, (t.0.0.0.1, (t.0.0.1, (t.0.1, (t.1, tt)))))))

  abbrev pub call_gives_fold6 : F → B → (((((X × Y) × Z) × U) × V) × W) → R → F → Type 0
  call_gives_fold6 f b t r h = Called g f (b, (t.0.0.0.0.0, (t.0.0.0.0.1, (t.0.0.0.1, (t.0.0.1, (t.0.1, (t.1, tt))))))) r h

module _ {F X Y R : Type 0} (g : Mut F (Bor X × (Bor Y × Unit {0})) R) where
  abbrev pub can_call_by_ref2 : F → (X × Y) → Type 0
  can_call_by_ref2 f t = (x : Bor X) (y : Bor Y) → x.now ≡ t.0 → y.now ≡ t.1 → g.pre f (x, (y, tt))

  abbrev pub call_gives_by_ref2 : F → (X × Y) → R → F → Type 0
  call_gives_by_ref2 f t r h = (x : Bor X) × (y : Bor Y) × (x.now ≡ t.0) × (y.now ≡ t.1) × Called g f (x, (y, tt)) r h
