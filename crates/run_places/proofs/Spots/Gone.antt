-- Which blocks are unreclaimed after the block of a pair, or of a table, was taken away.
use Rattle.std.specs.Prelude.{◌≡◌, ◌≢◌, ℕ, Bool, true, false, ◌&&◌, ◌||◌, List, [], ◌∷◌, map, if◌then◌else◌}
use Rattle.std.specs.List.{list_any}
use Rattle.std.proofs.Common.{refl, ap, sym, subst, ◌∙◌}
use Rattle.run_shows.specs.Given.RunsDeclared.effect.TableId.{TableId}
use Rattle.run_shows.specs.Given.SchedulesEffects.{all_at, at_stage}
use Rattle.run_shows.specs.Given.SchedulesLists.{is_among, put}
use Rattle.run_shows.specs.Given.SchedulesMoment.{Place, GivenBack, Stage, TableThere, Moment}
use Rattle.run_shows.specs.Given.SchedulesThings.{same_table}
use Rattle.run_shows.specs.Given.SchedulesViews.{is_there, is_stage, behind}
use Rattle.run_shows.specs.Given.EffectsKnown.{Known, with_role}
use Rattle.run_shows.specs.Given.EffectsDeclared.role.Role.{Role}
use Rattle.run_shows.specs.Given.EffectsDeclared.role.Role.TheVariants as role
use Rattle.run_shows.proofs.Follows.Alike.{put_here, put_elsewhere}
use Rattle.run_shows.proofs.Follows.Onward.{IsOfMap}
use Rattle.run_places.specs.Spots.Unreclaimed.{is_unreclaimed, RefinesUnreclaimed}
use Rattle.run_places.proofs.Spots.Calm.{put_back}
use Rattle.run_places.proofs.Spots.Unreclaimed.{AsUnreclaimed, unreclaimed_same, Now, staged_other}

module _ {K V : Type 0} (m v : Moment K V) (known : Known) (b : ℕ) (h : RefinesUnreclaimed m known) where
  abbrev roles2 : ℕ → Role
  roles2 = put b role.Free known.roles

  -- what is a block of a map then was it before, and is another one
  was_role : (x : ℕ) → IsOfMap (roles2 x) → roles2 x ≡ known.roles x
  was_role = put_back known.roles b role.Free (λ of. of)

  not_it : (x : ℕ) → IsOfMap (roles2 x) → x ≢ b
  not_it x of e = subst IsOfMap (put_here b role.Free known.roles x e) of

  others_stay : (x : ℕ) → x ≢ b → roles2 x ≡ known.roles x
  others_stay x ne = put_elsewhere b role.Free known.roles x ne

  -- one that was none of a map
  pub other_gone : (IsOfMap (known.roles b) → ⊥) → AsUnreclaimed m v → RefinesUnreclaimed v (with_role b role.Free known)
  other_gone none same = unreclaimed_same m v known (with_role b role.Free known) same (λ x of. others_stay x (λ e. none (subst (λ (y : ℕ). IsOfMap (known.roles y)) e of))) was_role h

  -- that of a pair, which no other block is
  pub pair_gone : (k : ℕ) → known.roles b ≡ role.Pair k → ((d : ℕ) → known.roles d ≡ role.Pair k → d ≡ b) → v.place ≡ put k GivenBack m.place → v.tables ≡ m.tables → RefinesUnreclaimed v (with_role b role.Free known)
  pair_gone k its once place tables = record {
    pairs = λ x n is. (let was = sym (was_role x (subst IsOfMap (sym is) tt)) ∙ is in
        same_place n (λ e. not_it x (subst IsOfMap (sym is) tt) (once x (was ∙ ap role.Pair e))) ∙ h.pairs x n was);
    pairs_there = λ n e. (let ne = not_back n e in let was = h.pairs_there n (sym (same_place n ne) ∙ e) in
        (was.0, others_stay was.0 (λ z. ne (let one : role.Pair n ≡ role.Pair k = sym was.1 ∙ ap known.roles z ∙ its in cc one)) ∙ was.1));
    tables = λ x len t is. same_tables t ∙ h.tables x len t (sym (was_role x (subst IsOfMap (sym is) tt)) ∙ is);
    tables_there = λ t e. (let was = h.tables_there t (sym (same_tables t) ∙ e) in
        (was.0, was.1, others_stay was.0 (λ z. (let one : role.Table t was.1 ≡ role.Pair k = sym was.2 ∙ ap known.roles z ∙ its in cc one)) ∙ was.2));
    tables_once = λ x y n l t is is2. h.tables_once x y n l t (sym (was_role x (subst IsOfMap (sym is) tt)) ∙ is) (sym (was_role y (subst IsOfMap (sym is2) tt)) ∙ is2);
  }
    where
      same_place : (n : ℕ) → n ≢ k → is_unreclaimed (v.place n) ≡ is_unreclaimed (m.place n)
      same_place n ne = ap (λ (f : ℕ → Place). is_unreclaimed (f n)) place ∙ ap is_unreclaimed (put_elsewhere k GivenBack m.place n ne)

      not_back : (n : ℕ) → is_unreclaimed (v.place n) ≡ true → n ≢ k
      not_back n e z = (let gone : is_unreclaimed (v.place n) ≡ false = ap (λ (f : ℕ → Place). is_unreclaimed (f n)) place ∙ ap is_unreclaimed (put_here k GivenBack m.place n z) in cc (e, gone))

      same_tables : (t : TableId) → is_stage is_there t v ≡ is_stage is_there t m
      same_tables t = ap (list_any (λ u. same_table u.table t && is_there u.stage)) tables

-- none of the tables that are reclaimed, or have ended, is there
none_there : (to : Stage) → is_there to ≡ false → (t : TableId) (xs : List TableThere) → list_any (Now t t) (map (at_stage t to) xs) ≡ false
none_there to gone t [] = refl
none_there to gone t (x ∷ xs) = ap (λ (q : Bool). q || list_any (Now t t) (map (at_stage t to) xs)) (by (same_table x.table t) refl) ∙ none_there to gone t xs
  where
    by : (q : Bool) → same_table x.table t ≡ q → Now t t (if q then record x { stage = to } else x) ≡ false
    by true e = ap (λ (z : Bool). z && is_there to) e ∙ gone
    by false e = ap (λ (z : Bool). z && is_there x.stage) e

module _ {K V : Type 0} (m v : Moment K V) (known : Known) (b len : ℕ) (t : TableId) (its : known.roles b ≡ role.Table t len) (h : RefinesUnreclaimed m known)
    (p : Place) (kept : is_unreclaimed p ≡ true) (to : Stage) (gone : is_there to ≡ false) (place : v.place ≡ all_at p (behind t m.deferred) m.place) (tables : v.tables ≡ map (at_stage t to) m.tables)
    (waits : (n : ℕ) → is_among n (behind t m.deferred) ≡ true → is_unreclaimed (m.place n) ≡ true) where
  same_place : (n : ℕ) → is_unreclaimed (v.place n) ≡ is_unreclaimed (m.place n)
  same_place n = ap (λ (f : ℕ → Place). is_unreclaimed (f n)) place ∙ by (is_among n (behind t m.deferred)) refl
    where
      by : (q : Bool) → is_among n (behind t m.deferred) ≡ q → is_unreclaimed (all_at p (behind t m.deferred) m.place n) ≡ is_unreclaimed (m.place n)
      by true e = ap (λ (q : Bool). is_unreclaimed (if q then p else m.place n)) e ∙ kept ∙ sym (waits n e)
      by false e = ap (λ (q : Bool). is_unreclaimed (if q then p else m.place n)) e

  other_tables : (u : TableId) → (t ≡ u → ⊥) → is_stage is_there u v ≡ is_stage is_there u m
  other_tables u ne = ap (list_any (Now t u)) tables ∙ staged_other t to u m.tables ne

  -- that of a table
  pub table_gone : RefinesUnreclaimed v (with_role b role.Free known)
  table_gone = record {
    pairs = λ x n is. same_place n ∙ h.pairs x n (sym (was_role m v known b h x (subst IsOfMap (sym is) tt)) ∙ is);
    pairs_there = λ n e. (let was = h.pairs_there n (sym (same_place n) ∙ e) in
        (was.0, others_stay m v known b h was.0 (λ z. (let one : role.Pair n ≡ role.Table t len = sym was.1 ∙ ap known.roles z ∙ its in cc one)) ∙ was.1));
    tables = λ x n u is. (let was = sym (was_role m v known b h x (subst IsOfMap (sym is) tt)) ∙ is in
        other_tables u (λ e. not_it m v known b h x (subst IsOfMap (sym is) tt) (h.tables_once x b n len t (was ∙ ap (λ (z : TableId). role.Table z n) (sym e)) its)) ∙ h.tables x n u was);
    tables_there = λ u e. (let ne = apart u e in let was = h.tables_there u (sym (other_tables u ne) ∙ e) in
        (was.0, was.1, others_stay m v known b h was.0 (λ z. ne (let one : role.Table t len ≡ role.Table u was.1 = sym its ∙ ap known.roles (sym z) ∙ was.2 in cc one)) ∙ was.2));
    tables_once = λ x y n l u is is2. h.tables_once x y n l u (sym (was_role m v known b h x (subst IsOfMap (sym is) tt)) ∙ is) (sym (was_role m v known b h y (subst IsOfMap (sym is2) tt)) ∙ is2);
  }
    where
      apart : (u : TableId) → is_stage is_there u v ≡ true → t ≡ u → ⊥
      apart u e z = (let none : is_stage is_there u v ≡ false = ap (list_any (Now t u)) tables ∙ ap (λ (x : TableId). list_any (Now t x) (map (at_stage t to) m.tables)) (sym z) ∙ none_there to gone t m.tables in cc (e, none))
