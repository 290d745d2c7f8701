-- Which blocks are not reclaimed after the effects of a step of a call.
use Rattle.std.specs.Prelude.{◌≡◌, ◌≢◌, ℕ, ◌+◌, ◌==◌, Bool, true, false, ◌&&◌, ◌||◌, List, [], ◌∷◌, ◌++◌, map, if◌then◌else◌, ◌⊎◌}
use Rattle.std.specs.List.{list_any}
use Rattle.std.proofs.Common.{refl, ap, sym, subst, ◌∙◌, arith, inl, inr}
use Rattle.std.proofs.lemmas.Bool.{eq-eqb, cases_eq}
use Rattle.run_shows.specs.Given.RunsDeclared.shapes.TableShape.{TableShape}
use Rattle.run_shows.specs.Given.RunsDeclared.effect.TableId.{TableId}
use Rattle.run_shows.specs.Given.SchedulesEffects.{at_stage}
use Rattle.run_shows.specs.Given.SchedulesLists.{put}
use Rattle.run_shows.specs.Given.SchedulesMoment.{Place, Stage, IsLinked, IsRetired, TableThere, Moment}
use Rattle.run_shows.specs.Given.SchedulesThings.{same_table}
use Rattle.run_shows.specs.Given.SchedulesViews.{is_there, is_stage}
use Rattle.run_shows.specs.Given.EffectsKnown.{Known, with_pair, with_role}
use Rattle.run_shows.specs.Given.EffectsDeclared.role.Role.{Role}
use Rattle.run_shows.specs.Given.EffectsDeclared.role.Role.TheVariants as role
use Rattle.run_shows.proofs.Follows.Alike.{put_here, put_elsewhere}
use Rattle.run_shows.proofs.Follows.Onward.{IsLasting, IsOfMap, KeepsRoles}
use Rattle.run_places.specs.Spots.Unreclaimed.{is_unreclaimed, RefinesUnreclaimed}
use Rattle.run_shows.proofs.Given.General.{both_true as and_both, or_second as or_right, or_first as or_left}

-- blocks of maps are those that they were, and stay those
abbrev pub WereOfMaps : Known → Known → Type 0
WereOfMaps known known2 = (b : ℕ) → IsOfMap (known2.roles b) → known2.roles b ≡ known.roles b

abbrev pub StayOfMaps : Known → Known → Type 0
StayOfMaps known known2 = (b : ℕ) → IsOfMap (known.roles b) → known2.roles b ≡ known.roles b

pub of_map_lasts : (r : Role) → IsOfMap r → IsLasting r
of_map_lasts (role.Pair n) of = tt
of_map_lasts (role.Table t len) of = tt
of_map_lasts role.Free of = absurd of
of_map_lasts (role.OwnPair i) of = absurd of
of_map_lasts (role.OwnTable turn shape) of = absurd of
of_map_lasts (role.Counter map) of = absurd of

pub stay_of_maps : (known known2 : Known) → KeepsRoles known known2 → StayOfMaps known known2
stay_of_maps known known2 keeps b of = keeps b (of_map_lasts (known.roles b) of)

module _ {K V : Type 0} where
  -- what is not reclaimed is the same
  pub record AsUnreclaimed (m v : Moment K V) : Type 0 where
    pub place : (k : ℕ) → is_unreclaimed (v.place k) ≡ is_unreclaimed (m.place k)
    pub tables : (t : TableId) → is_stage is_there t v ≡ is_stage is_there t m

  pub unreclaimed_same : (m v : Moment K V) (known known2 : Known) → AsUnreclaimed m v → StayOfMaps known known2 → WereOfMaps known known2 → RefinesUnreclaimed m known → RefinesUnreclaimed v known2
  unreclaimed_same m v known known2 same keeps back h = record {
    pairs = λ b k is. same.place k ∙ h.pairs b k (sym (back b (subst IsOfMap (sym is) tt)) ∙ is);
    pairs_there = λ k e. let it = h.pairs_there k (sym (same.place k) ∙ e) in (it.0, keeps it.0 (subst IsOfMap (sym it.1) tt) ∙ it.1);
    tables = λ b len t is. same.tables t ∙ h.tables b len t (sym (back b (subst IsOfMap (sym is) tt)) ∙ is);
    tables_there = λ t e. let it = h.tables_there t (sym (same.tables t) ∙ e) in (it.0, it.1, keeps it.0 (subst IsOfMap (sym it.2) tt) ∙ it.2);
    tables_once = λ b d len len2 t is is2. h.tables_once b d len len2 t (sym (back b (subst IsOfMap (sym is) tt)) ∙ is) (sym (back d (subst IsOfMap (sym is2) tt)) ∙ is2);
  }

  -- a pair that is not reclaimed goes elsewhere, and is not there either
  pub moved_unreclaimed : (m v : Moment K V) (n : ℕ) (p : Place) → v.place ≡ put n p m.place → v.tables ≡ m.tables → is_unreclaimed (m.place n) ≡ true → is_unreclaimed p ≡ true → AsUnreclaimed m v
  moved_unreclaimed m v n p place tables was is = record {
    place = λ k. ap (λ (f : ℕ → Place). is_unreclaimed (f k)) place ∙ (elim (cases_eq k n) as (λ _. is_unreclaimed (put n p m.place k) ≡ is_unreclaimed (m.place k)) [
      | inl e ↦ ap is_unreclaimed (put_here n p m.place k e) ∙ is ∙ sym (ap (λ (x : ℕ). is_unreclaimed (m.place x)) e ∙ was)
      | inr ne ↦ ap is_unreclaimed (put_elsewhere n p m.place k ne)
    ]);
    tables = λ t. ap (list_any (λ u. same_table u.table t && is_there u.stage)) tables;
  }

  -- a pair is stored in a block that was none of a map
  pub stored_unreclaimed : (m v : Moment K V) (known : Known) (b : ℕ) (p : Place) → (IsLasting (known.roles b) → ⊥) → is_unreclaimed p ≡ true → v.place ≡ put (known.stored + 1) p m.place → v.tables ≡ m.tables
      → RefinesUnreclaimed m known → RefinesUnreclaimed v (with_pair b known)
  stored_unreclaimed m v known b p own new place tables h = record {
    pairs = λ x k is. ap (λ (f : ℕ → Place). is_unreclaimed (f k)) place ∙ (elim (cases_eq k next) as (λ _. is_unreclaimed (put next p m.place k) ≡ true) [
      | inl e ↦ ap is_unreclaimed (put_here next p m.place k e) ∙ new
      | inr ne ↦ ap is_unreclaimed (put_elsewhere next p m.place k ne) ∙ h.pairs x k (sym (put_elsewhere b (role.Pair next) known.roles x (other x k ne is)) ∙ is)
    ]);
    pairs_there = λ k e. elim (cases_eq k next) as (λ _. (x : ℕ) × (put b (role.Pair next) known.roles x ≡ role.Pair k)) [
      | inl same ↦ (b, put_here b (role.Pair next) known.roles b refl ∙ ap role.Pair (sym same))
      | inr ne ↦
          let was = h.pairs_there k (sym (ap is_unreclaimed (put_elsewhere next p m.place k ne)) ∙ ap (λ (f : ℕ → Place). is_unreclaimed (f k)) (sym place) ∙ e) in
          (was.0, put_elsewhere b (role.Pair next) known.roles was.0 (λ z. own (subst IsLasting (sym (ap known.roles (sym z) ∙ was.1)) tt)) ∙ was.1)
    ];
    tables = λ x len t is. same_tables t ∙ h.tables x len t (its_table x len t is);
    tables_there = λ t e.
        let was = h.tables_there t (sym (same_tables t) ∙ e) in
        (was.0, was.1, put_elsewhere b (role.Pair next) known.roles was.0 (λ z. own (subst IsLasting (sym (ap known.roles (sym z) ∙ was.2)) tt)) ∙ was.2);
    tables_once = λ x y n l t is is2. h.tables_once x y n l t (its_table x n t is) (its_table y l t is2);
  }
    where
      next : ℕ
      next = known.stored + 1

      same_tables : (t : TableId) → is_stage is_there t v ≡ is_stage is_there t m
      same_tables t = ap (list_any (λ u. same_table u.table t && is_there u.stage)) tables

      other : (x k : ℕ) → k ≢ next → put b (role.Pair next) known.roles x ≡ role.Pair k → x ≢ b
      other x k ne is z = ne (let one : role.Pair next ≡ role.Pair k = sym (put_here b (role.Pair next) known.roles x z) ∙ is in cc one)

      its_table : (x len : ℕ) (t : TableId) → put b (role.Pair next) known.roles x ≡ role.Table t len → known.roles x ≡ role.Table t len
      its_table x len t is =
          sym (put_elsewhere b (role.Pair next) known.roles x (λ z. (let one : role.Pair next ≡ role.Table t len = sym (put_here b (role.Pair next) known.roles x z) ∙ is in cc one))) ∙ is

-- of lists of tables

or_end : (a b : Bool) → (a || b) ≡ true → (a ≡ true) ⊎ (b ≡ true)
or_end true b e = inl refl
or_end false b e = inr e

any_before : {X : Type 0} (p : X → Bool) (xs : List X) (x : X) → list_any p xs ≡ true → list_any p (xs ++ x ∷ []) ≡ true
any_before p [] x e = absurd (cc e)
any_before p (y ∷ xs) x e = by (or_end (p y) (list_any p xs) e) (any_before p xs x)
  where
    by : (p y ≡ true) ⊎ (list_any p xs ≡ true) → (list_any p xs ≡ true → list_any p (xs ++ x ∷ []) ≡ true) → (p y || list_any p (xs ++ x ∷ [])) ≡ true
    by (inl a) rest = or_left (p y) (list_any p (xs ++ x ∷ [])) a
    by (inr b) rest = or_right (p y) (list_any p (xs ++ x ∷ [])) (rest b)

any_new : {X : Type 0} (p : X → Bool) (xs : List X) (x : X) → p x ≡ true → list_any p (xs ++ x ∷ []) ≡ true
any_new p [] x e = or_left (p x) false e
any_new p (y ∷ xs) x e = or_right (p y) (list_any p (xs ++ x ∷ [])) (any_new p xs x e)

pub any_either : {X : Type 0} (p : X → Bool) (xs : List X) (x : X) → list_any p (xs ++ x ∷ []) ≡ true → (list_any p xs ≡ true) ⊎ (p x ≡ true)
any_either p [] x e = by (or_end (p x) false e)
  where
    by : (p x ≡ true) ⊎ (false ≡ true) → (false ≡ true) ⊎ (p x ≡ true)
    by (inl a) = inr a
    by (inr b) = inl b
any_either p (y ∷ xs) x e = by (or_end (p y) (list_any p (xs ++ x ∷ [])) e) (any_either p xs x)
  where
    later : (list_any p xs ≡ true) ⊎ (p x ≡ true) → ((p y || list_any p xs) ≡ true) ⊎ (p x ≡ true)
    later (inl c) = inl (or_right (p y) (list_any p xs) c)
    later (inr d) = inr d

    by : (p y ≡ true) ⊎ (list_any p (xs ++ x ∷ []) ≡ true) → (list_any p (xs ++ x ∷ []) ≡ true → (list_any p xs ≡ true) ⊎ (p x ≡ true)) → ((p y || list_any p xs) ≡ true) ⊎ (p x ≡ true)
    by (inl a) rest = inl (or_left (p y) (list_any p xs) a)
    by (inr b) rest = later (rest b)

-- the same table is this one
pub table_is : (t u : TableId) → same_table t u ≡ true → t ≡ u
table_is t u e =
    let two = and_both (t.map == u.map) (t.turn == u.turn) e in
    let maps : t.map ≡ u.map = number_is t.map u.map two.0 in
    let turns : t.turn ≡ u.turn = number_is t.turn u.turn two.1 in
    ap (λ (x : ℕ). record { map = x; turn = t.turn }) maps ∙ ap (λ (x : ℕ). record { map = u.map; turn = x }) turns
  where
    number_is : (a b : ℕ) → (a == b) ≡ true → a ≡ b
    number_is a b e = grind (arith, e)

pub same_itself : (t : TableId) → same_table t t ≡ true
same_itself t = ap (λ (q : Bool). q && (t.turn == t.turn)) (eq-eqb t.map t.map refl) ∙ eq-eqb t.turn t.turn refl

module _ {K V : Type 0} where
  -- a table is linked, in a block that was none of a map
  pub linked_unreclaimed : (m v : Moment K V) (known : Known) (b len : ℕ) (t : TableId) (shape : TableShape) → (IsLasting (known.roles b) → ⊥) → ((x n : ℕ) → known.roles x ≡ role.Table t n → ⊥) → v.place ≡ m.place → v.tables ≡ m.tables ++ record { table = t; shape = shape; stage = IsLinked } ∷ []
      → RefinesUnreclaimed m known → RefinesUnreclaimed v (with_role b (role.Table t len) known)
  linked_unreclaimed m v known b len t shape own none place tables h = record {
    pairs = λ x k is. same_place k ∙ h.pairs x k (sym (put_elsewhere b its known.roles x (λ z. (let one : its ≡ role.Pair k = sym (put_here b its known.roles x z) ∙ is in cc one))) ∙ is);
    pairs_there = λ k e. let was = h.pairs_there k (sym (same_place k) ∙ e) in
        (was.0, put_elsewhere b its known.roles was.0 (λ z. own (subst IsLasting (sym (ap known.roles (sym z) ∙ was.1)) tt)) ∙ was.1);
    tables = λ x n u is. elim (cases_eq x b) as (λ _. is_stage is_there u v ≡ true) [
      | inl z ↦ (let one : its ≡ role.Table u n = sym (put_here b its known.roles x z) ∙ is in let u_is : t ≡ u = cc one in
          ap (list_any (λ y. same_table y.table u && is_there y.stage)) tables ∙ any_new (λ y. same_table y.table u && is_there y.stage) m.tables new
          (ap (λ (y : TableId). same_table t y && true) (sym u_is) ∙ ap (λ (q : Bool). q && true) (same_itself t)))
      | inr ne ↦ ap (list_any (λ y. same_table y.table u && is_there y.stage)) tables
          ∙ any_before (λ y. same_table y.table u && is_there y.stage) m.tables new (h.tables x n u (sym (put_elsewhere b its known.roles x ne) ∙ is))
    ];
    tables_there = λ u e. there u (any_either (λ y. same_table y.table u && is_there y.stage) m.tables new (sym (ap (list_any (λ y. same_table y.table u && is_there y.stage)) tables) ∙ e));
    tables_once = λ x y n l u is is2. once x y n l u (cases_eq x b) (cases_eq y b) is is2;
  }
    where
      its : Role
      its = role.Table t len

      new : TableThere
      new = record { table = t; shape = shape; stage = IsLinked }

      same_place : (k : ℕ) → is_unreclaimed (v.place k) ≡ is_unreclaimed (m.place k)
      same_place k = ap (λ (f : ℕ → Place). is_unreclaimed (f k)) place

      There : TableId → Type 0
      There u = (x : ℕ) × (n : ℕ) × (put b its known.roles x ≡ role.Table u n)

      there : (u : TableId) → (is_stage is_there u m ≡ true) ⊎ ((same_table t u && true) ≡ true) → There u
      there u (inl before) =
          let was = h.tables_there u before in (was.0, was.1, put_elsewhere b its known.roles was.0 (λ z. own (subst IsLasting (sym (ap known.roles (sym z) ∙ was.2)) tt)) ∙ was.2)
      there u (inr now) = (b, len, put_here b its known.roles b refl ∙ ap (λ (x : TableId). role.Table x len) (table_is t u (and_both (same_table t u) true now).0))

      other : (x n : ℕ) (u : TableId) → x ≢ b → put b its known.roles x ≡ role.Table u n → known.roles x ≡ role.Table u n
      other x n u ne is = sym (put_elsewhere b its known.roles x ne) ∙ is

      its_table : (x n : ℕ) (u : TableId) → x ≡ b → put b its known.roles x ≡ role.Table u n → t ≡ u
      its_table x n u e is = let one : its ≡ role.Table u n = sym (put_here b its known.roles x e) ∙ is in cc one

      once : (x y n l : ℕ) (u : TableId) → (x ≡ b) ⊎ (x ≢ b) → (y ≡ b) ⊎ (y ≢ b) → put b its known.roles x ≡ role.Table u n → put b its known.roles y ≡ role.Table u l → x ≡ y
      once x y n l u (inl e) (inl f) is is2 = e ∙ sym f
      once x y n l u (inl e) (inr f) is is2 = absurd (none y l (other y l u f is2 ∙ ap (λ (z : TableId). role.Table z l) (sym (its_table x n u e is))))
      once x y n l u (inr e) (inl f) is is2 = absurd (none x n (other x n u e is ∙ ap (λ (z : TableId). role.Table z n) (sym (its_table y l u f is2))))
      once x y n l u (inr e) (inr f) is is2 = h.tables_once x y n l u (other x n u e is) (other y l u f is2)

-- a table that is there is retired
module _ (t : TableId) where
  abbrev pub Now : TableId → TableThere → Bool
  Now u x = same_table x.table u && is_there x.stage

  -- other tables are as they were
  staged_one : (to : Stage) (u : TableId) (x : TableThere) → (same_table x.table t ≡ true → same_table x.table u ≡ false) → Now u (at_stage t to x) ≡ Now u x
  staged_one to u x apart = by (same_table x.table t) refl
    where
      by : (q : Bool) → same_table x.table t ≡ q → Now u (if q then record x { stage = to } else x) ≡ Now u x
      by true e = ap (λ (z : Bool). z && is_there to) (apart e) ∙ sym (ap (λ (z : Bool). z && is_there x.stage) (apart e))
      by false e = refl

  pub staged_other : (to : Stage) (u : TableId) (xs : List TableThere) → (t ≡ u → ⊥) → list_any (Now u) (map (at_stage t to) xs) ≡ list_any (Now u) xs
  staged_other to u [] ne = refl
  staged_other to u (x ∷ xs) ne =
      ap (λ (q : Bool). q || list_any (Now u) (map (at_stage t to) xs)) (staged_one to u x (λ e. apart (same_table x.table u) refl e)) ∙ ap (λ (q : Bool). Now u x || q) (staged_other to u xs ne)
    where
      apart : (q : Bool) → same_table x.table u ≡ q → same_table x.table t ≡ true → same_table x.table u ≡ false
      apart true e f = absurd (ne (sym (table_is x.table t f) ∙ table_is x.table u e))
      apart false e f = e

  -- and it is there still
  retired_there : (xs : List TableThere) → list_any (Now t) xs ≡ true → list_any (Now t) (map (at_stage t IsRetired) xs) ≡ true
  retired_there [] e = e
  retired_there (x ∷ xs) e = by (or_end (Now t x) (list_any (Now t) xs) e) (retired_there xs)
    where
      its : same_table x.table t ≡ true → (q : Bool) → same_table x.table t ≡ q → Now t (if q then record x { stage = IsRetired } else x) ≡ true
      its same true f = ap (λ (z : Bool). z && true) same
      its same false f = absurd (cc (same, f))

      by : (Now t x ≡ true) ⊎ (list_any (Now t) xs ≡ true) → (list_any (Now t) xs ≡ true → list_any (Now t) (map (at_stage t IsRetired) xs) ≡ true) → (Now t (at_stage t IsRetired x) || list_any (Now t) (map (at_stage t IsRetired) xs)) ≡ true
      by (inl a) rest = or_left (Now t (at_stage t IsRetired x)) (list_any (Now t) (map (at_stage t IsRetired) xs)) (its (and_both (same_table x.table t) (is_there x.stage) a).0 (same_table x.table t) refl)
      by (inr b) rest = or_right (Now t (at_stage t IsRetired x)) (list_any (Now t) (map (at_stage t IsRetired) xs)) (rest b)

module _ {K V : Type 0} where
  pub retired_unreclaimed : (m v : Moment K V) (t : TableId) → v.place ≡ m.place → v.tables ≡ map (at_stage t IsRetired) m.tables → is_stage is_there t m ≡ true → AsUnreclaimed m v
  retired_unreclaimed m v t place tables was = record {
    place = λ k. ap (λ (f : ℕ → Place). is_unreclaimed (f k)) place;
    tables = λ u. ap (list_any (Now t u)) tables ∙ by u (same_table t u) refl;
  }
    where
      by : (u : TableId) (q : Bool) → same_table t u ≡ q → list_any (Now t u) (map (at_stage t IsRetired) m.tables) ≡ list_any (Now t u) m.tables
      by u true e =
          let u_is : t ≡ u = table_is t u e in
          subst (λ (x : TableId). list_any (Now t x) (map (at_stage t IsRetired) m.tables) ≡ list_any (Now t x) m.tables) u_is (retired_there t m.tables was ∙ sym was)
      by u false e = staged_other t IsRetired u m.tables (λ z. (let same : same_table t u ≡ true = ap (same_table t) (sym z) ∙ same_itself t in cc (same, e)))
