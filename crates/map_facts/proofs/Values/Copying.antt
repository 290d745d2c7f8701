-- What a copier leaves of the blocks: it makes a table where it needs a further one, and none elsewhere.
use Rattle.std.specs.Prelude.{ℕ, ◌+◌, ◌-◌, ◌/◌, ◌%◌, ◌^◌, ◌==◌, Bool, true, false, Option, Ok, Err, nat_lt, bit_or, if◌then◌else◌}
use Rattle.std.proofs.Common.{sym, subst, inl, inr}
use Rattle.map_rule.specs.Given.SeizeWordsDeclared.at.At.TheVariants.{Root, Word}
use Rattle.map_rule.specs.Given.SeizeWordsDeclared.fault.Fault.{Fault}
use Rattle.map_rule.specs.Given.SeizeWordsOp.{Found, Exchanged}
use Rattle.map_rule.specs.Given.SeizeWordsMem.{Mem, Took, value_at, with_word}
use Rattle.map_rule.specs.Given.SeizeWordsPlan.{Then, Now, Seeing, Sure, Steps, Ends}
use Rattle.map_rule.proofs.Given.SeizeWordsOneOwner.Operations.{loaded, stored, added, ored, exchanged}
use Rattle.papaya_raw.specs.Given.TablesChunks.{is_incremental}
use Rattle.map_rule.specs.Given.ResizeCopier.{plan_at}
use Rattle.map_rule.specs.Given.ResizeCopierClaims.{chunk, root_read, next_read, status_read, claim_read, claimed}
use Rattle.map_rule.specs.Given.ResizeCopierCounts.{to, refusing, given_up, counted}
use Rattle.map_rule.specs.Given.ResizeCopierFurther.{further_read, replacement_read}
use Rattle.map_rule.specs.Given.ResizeCopierMarks.{is_mine, is_awaited, marked}
use Rattle.map_rule.specs.Given.ResizeCopierPlaces.{copied_word, next_try, pair_put, place_read, after_put}
use Rattle.map_rule.specs.Given.ResizeCopierPromotes.{promoted, successor_read}
use Rattle.map_rule.specs.Given.ResizeCopierStates.{standing, behind, none_left, next_place, place_done}
use Rattle.papaya_raw.specs.Given.TablesProbes.{probe_after}
use Rattle.papaya_raw.specs.Given.TablesTablePlaces.{at_word, at_place}
use Rattle.papaya_raw.specs.Given.TablesDeclared.marks.TheConstants.{COPYING, COPIED}
use Rattle.papaya_raw.specs.Given.TablesDeclared.lengths.Reason.TheVariants.{NoPlace}
use Rattle.papaya_raw.specs.Given.TablesDeclared.node.Node.{Node}
use Rattle.papaya_raw.specs.Given.TablesDeclared.status.TheConstants.Status.{ABORTED, PROMOTED}
use Rattle.map_rule.specs.Given.ResizeDeclared.yielding.Yielding.{Yielding}
use Rattle.papaya_raw.specs.Given.TablesDeclared.probe.Probe.{Probe}
use Rattle.papaya_raw.specs.Given.TablesDeclared.table.Table.{Table}
use Rattle.papaya_raw.specs.Given.TablesDeclared.table_words.TheConstants.{NEXT, CLAIM, STATUS, COPIED as COUNT}
use Rattle.map_rule.specs.Given.ResizeDeclared.copier.Copier.{Copier}
use Rattle.map_rule.specs.Given.ResizeDeclared.copier.Copying.{Copying as Point}
use Rattle.map_rule.specs.Given.ResizeDeclared.copier.Copying.TheVariants as at
use Rattle.map_facts.specs.Made.{IsMadeByCopier}
use Rattle.map_facts.proofs.Values.Kept.{IsPlainStep}
use Rattle.map_facts.proofs.Values.Making.{MadeNone, none_made, next_made_none}

-- each outcome of the rest of a step is so
module _ {T R : Type 0} (P : R → Type 0) where
  abbrev pub AllThen : Then T R → Type 0
  AllThen (Now r) = P r
  AllThen (Seeing block rest) = (value : T) → AllThen (rest value)
  AllThen (Sure fact rest) = AllThen rest

  pub all_then : (shown : ℕ → Option T) (rest : Then T R) (end : R) → AllThen rest → Ends shown rest end → P end
  all_then shown (Now r) end all ends = subst P (sym ends) all
  all_then shown (Seeing block rest) end all ends = all_then shown (rest ends.0) end (all ends.0) ends.2
  all_then shown (Sure fact rest) end all ends = all_then shown rest end all ends

  pub all_if : (q : Bool) (x y : Then T R) → AllThen x → AllThen y → AllThen (if q then x else y)
  all_if true x y f g = f
  all_if false x y f g = g

-- it has made no table that it has not linked
abbrev pub CopierMadeNone : Point → Type 0
CopierMadeNone (at.Grows word code making) = MadeNone making.stands
CopierMadeNone (at.Remakes making) = MadeNone making.stands
CopierMadeNone _ = Unit {0}

pub none_made_by_copier : (stands : Point) → CopierMadeNone stands → (b : ℕ) → IsMadeByCopier stands b → ⊥
none_made_by_copier (at.Grows word code making) none b h = none_made making.stands none b h
none_made_by_copier (at.Remakes making) none b h = none_made making.stands none b h
none_made_by_copier at.Begins none b h = h
none_made_by_copier at.Follows none b h = h
none_made_by_copier at.Asks none b h = h
none_made_by_copier at.Sees none b h = h
none_made_by_copier at.Claims none b h = h
none_made_by_copier at.Marks none b h = h
none_made_by_copier (at.Probes word code table probe) none b h = h
none_made_by_copier (at.Puts word code table probe) none b h = h
none_made_by_copier (at.Covers word) none b h = h
none_made_by_copier (at.Passes word code table) none b h = h
none_made_by_copier at.Aborts none b h = h
none_made_by_copier at.Replaces none b h = h
none_made_by_copier at.Counts none b h = h
none_made_by_copier (at.Tallies word fault) none b h = h
none_made_by_copier (at.Unmarks word fault) none b h = h
none_made_by_copier (at.Unclaims fault) none b h = h
none_made_by_copier at.Promotes none b h = h
none_made_by_copier at.Announces none b h = h
none_made_by_copier (at.Succeeds table) none b h = h
none_made_by_copier (at.Retires settle rest) none b h = h
none_made_by_copier at.Over none b h = h
none_made_by_copier (at.Refused fault) none b h = h

pub none_if : (q : Bool) (x y : Copier) → CopierMadeNone x.stands → CopierMadeNone y.stands → CopierMadeNone (if q then x else y).stands
none_if true x y f g = f
none_if false x y f g = g

none_behind : (p : Copier) → CopierMadeNone (behind p).stands
none_behind p = none_if p.whole (record p { place = 0; end = 0; spent = is_incremental p.setting.mode; stands = at.Asks }) (standing p at.Over) tt tt

none_left_over : (p : Copier) → CopierMadeNone (none_left p).stands
none_left_over p = none_if p.whole (record p { spent = true; stands = at.Asks }) (standing p at.Over) tt tt

none_next : (p : Copier) → CopierMadeNone (next_place p).stands
none_next p =
    none_if (nat_lt p.place (p.end - 1)) (record p { place = p.place + 1; stands = at.Marks }) (if p.done == 0 then behind p else standing p at.Counts) tt
    (none_if (p.done == 0) (behind p) (standing p at.Counts) (none_behind p) tt)

none_done : (p : Copier) → CopierMadeNone (place_done p).stands
none_done p = none_next (record p { done = (p.done + 1) % 2 ^ 64 })

none_try : (p : Copier) (word code : ℕ) (table : Table) (probe : Probe) → CopierMadeNone (next_try p word code table probe).stands
none_try p word code table probe =
    none_if (nat_lt probe.len table.limit) (standing p (at.Probes word code table (probe_after probe (table.len - 1))))
    (if is_incremental p.setting.mode then standing p (at.Passes word code table) else record p { place = 0; end = 0; done = 0; stands = at.Aborts }) tt
    (none_if (is_incremental p.setting.mode) (standing p (at.Passes word code table)) (record p { place = 0; end = 0; done = 0; stands = at.Aborts }) tt tt)

none_put : (p : Copier) (word : ℕ) → CopierMadeNone (pair_put p word).stands
none_put p word = none_if (is_incremental p.setting.mode) (standing p (at.Covers word)) (place_done p) tt (none_done p)

pub none_refusing : (p : Copier) (word : ℕ) (fault : Fault) → CopierMadeNone (refusing p word fault).stands
none_refusing p word fault = none_if (p.done == 0) (standing p (at.Unmarks word fault)) (standing p (at.Tallies word fault)) tt tt

-- where a copier stands that makes no table, and retires none
abbrev pub IsPlainPoint : Point → Type 0
IsPlainPoint (at.Grows word code making) = ⊥
IsPlainPoint (at.Remakes making) = ⊥
IsPlainPoint (at.Retires settle rest) = ⊥
IsPlainPoint _ = Unit {0}

module _ {K V : Type 0} (hash : K → ℕ) (m m2 : Mem (Node K V)) (p : Copier) (end : Copier × Yielding (Node K V) Table) (here : CopierMadeNone p.stands) where
  abbrev P : Copier × Yielding (Node K V) Table → Type 0
  P e = CopierMadeNone e.0.stands

  abbrev All : Then (Node K V) (Copier × Yielding (Node K V) Table) → Type 0
  All rest = AllThen P rest

  by_all : (n : Mem (Node K V)) (rest : Then (Node K V) (Copier × Yielding (Node K V) Table)) → All rest → Ends (value_at n) rest end → P end
  by_all n rest all ends = all_then P (value_at n) rest end all ends

  pub none_at : (stands : Point) → IsPlainPoint stands → Steps Took value_at m (plan_at hash p stands) m2 end → P end
  none_at at.Begins plain s = let d = loaded m (root_read p) (Root p.setting.root) m2 end s in by_all m (root_read p (Found d.0)) (λ v. tt) d.3
  none_at at.Follows plain s = let d = loaded m (next_read p) (at_word p.source NEXT) m2 end s in by_all m (next_read p (Found d.0)) (all_if P (d.0 == 0) _ _ tt (λ v. tt)) d.3
  none_at at.Asks plain s =
      let d = loaded m (status_read p) (at_word p.target STATUS) m2 end s in
      by_all m (status_read p (Found d.0)) (all_if P (d.0 == PROMOTED) _ _ tt (all_if P (d.0 == ABORTED) _ _ tt (all_if P p.spent _ _ here tt))) d.3
  none_at at.Sees plain s = let d = loaded m (claim_read p) (at_word p.target CLAIM) m2 end s in by_all m (claim_read p (Found d.0)) (all_if P (nat_lt d.0 p.source.len) _ _ tt (none_left_over p)) d.3
  none_at at.Claims plain s =
      let d = added m (claimed p) (at_word p.target CLAIM) (chunk p) m2 end s in by_all (with_word m (at_word p.target CLAIM) ((d.0 + chunk p) % 2 ^ 64)) (claimed p (Found d.0)) (all_if P (nat_lt d.0 p.source.len) _ _ tt (none_left_over p)) d.3
  none_at at.Marks plain s =
      let d = ored m (marked hash p) (at_place p.source p.place) COPYING m2 end s in
      by_all (with_word m (at_place p.source p.place) (bit_or d.0 COPYING)) (marked hash p (Found d.0))
      (all_if P (is_mine p d.0) _ _ (all_if P (d.0 / 2048 == 0) _ _ (none_done p) (λ v. tt)) (all_if P (is_awaited p d.0) _ _ here (none_next p))) d.3
  none_at (at.Probes word code table probe) plain s =
      let d = loaded m (place_read p word code table probe) (at_place table probe.i) m2 end s in
      by_all m (place_read p word code table probe (Found d.0)) (all_if P (d.0 == 0) _ _ tt (none_try p word code table probe)) d.3
  none_at (at.Puts word code table probe) plain s = elim (exchanged m (after_put p word code table probe) (at_place table probe.i) 0 (copied_word p word) m2 end s) as (λ _. P end) [
    | inl d ↦ by_all m (after_put p word code table probe (Exchanged (Ok d.0))) (none_put p word) d.3
    | inr d ↦ by_all m (after_put p word code table probe (Exchanged (Err d.0))) (none_try p word code table probe) d.3
  ]
  none_at (at.Covers word) plain s =
      let d = stored m (λ out. to (place_done p)) (at_place p.source p.place) (bit_or (bit_or word COPYING) COPIED) m2 end s in by_all m (to (place_done p)) (none_done p) d.1
  none_at (at.Passes word code table) plain s =
      let d = loaded m (further_read p word code table) (at_word table NEXT) m2 end s in
      by_all m (further_read p word code table (Found d.0)) (all_if P (d.0 == 0) _ _ (next_made_none NoPlace table _) (λ v. tt)) d.3
  none_at (at.Grows word code making) plain s = absurd plain
  none_at at.Aborts plain s = let d = stored m (λ out. to (standing p at.Replaces)) (at_word p.target STATUS) ABORTED m2 end s in by_all m (to (standing p at.Replaces)) tt d.1
  none_at at.Replaces plain s =
      let d = loaded m (replacement_read p) (at_word p.target NEXT) m2 end s in
      by_all m (replacement_read p (Found d.0)) (all_if P (d.0 == 0) _ _ (next_made_none NoPlace p.target _) (λ v. tt)) d.3
  none_at (at.Remakes making) plain s = absurd plain
  none_at at.Counts plain s =
      let d = added m (counted p) (at_word p.target COUNT) p.done m2 end s in
      by_all (with_word m (at_word p.target COUNT) ((d.0 + p.done) % 2 ^ 64)) (counted p (Found d.0)) (all_if P ((d.0 + p.done) % 2 ^ 64 == p.source.len) _ _ tt (none_behind (record p { done = 0 }))) d.3
  none_at (at.Tallies word fault) plain s =
      let d = added m (λ out. to (record p { done = 0; stands = at.Unmarks word fault })) (at_word p.target COUNT) p.done m2 end s in by_all m (to (record p { done = 0; stands = at.Unmarks word fault })) tt d.3
  none_at (at.Unmarks word fault) plain s =
      let d = stored m (λ out. to (standing p (at.Unclaims fault))) (at_place p.source p.place) word m2 end s in by_all m (to (standing p (at.Unclaims fault))) tt d.1
  none_at (at.Unclaims fault) plain s = let d = stored m (λ out. to (given_up p fault)) (at_word p.target CLAIM) 0 m2 end s in by_all m (to (given_up p fault)) tt d.1
  none_at at.Promotes plain s = elim (exchanged m (promoted p) (Root p.setting.root) p.source.link p.target.link m2 end s) as (λ _. P end) [
    | inl d ↦ by_all m (promoted p (Exchanged (Ok d.0))) tt d.3
    | inr d ↦ by_all m (promoted p (Exchanged (Err d.0))) (none_behind p) d.3
  ]
  none_at at.Announces plain s =
      let d = stored m (λ out. to (standing p (at.Succeeds p.source.link))) (at_word p.target STATUS) PROMOTED m2 end s in by_all m (to (standing p (at.Succeeds p.source.link))) tt d.1
  none_at (at.Succeeds table) plain s = let d = loaded m (successor_read p table) (Word (table / 2048) NEXT) m2 end s in by_all m (successor_read p table (Found d.0)) tt d.3
  none_at (at.Retires settle rest) plain s = absurd plain
  none_at at.Over plain s = subst P (sym s.1) here
  none_at (at.Refused fault) plain s = subst P (sym s.1) here

-- a step there makes no block and takes none away, and no table is left to be linked
pub plain_at : {K : Type 0} (V : Type 0) (hash : K → ℕ) (p : Copier) (stands : Point) → IsPlainPoint stands → IsPlainStep (plan_at {K = K} {V = V} hash p stands) × CopierMadeNone stands
plain_at V hash p at.Begins plain = (tt, tt)
plain_at V hash p at.Follows plain = (tt, tt)
plain_at V hash p at.Asks plain = (tt, tt)
plain_at V hash p at.Sees plain = (tt, tt)
plain_at V hash p at.Claims plain = (tt, tt)
plain_at V hash p at.Marks plain = (tt, tt)
plain_at V hash p (at.Probes word code table probe) plain = (tt, tt)
plain_at V hash p (at.Puts word code table probe) plain = (tt, tt)
plain_at V hash p (at.Covers word) plain = (tt, tt)
plain_at V hash p (at.Passes word code table) plain = (tt, tt)
plain_at V hash p (at.Grows word code making) plain = absurd plain
plain_at V hash p at.Aborts plain = (tt, tt)
plain_at V hash p at.Replaces plain = (tt, tt)
plain_at V hash p (at.Remakes making) plain = absurd plain
plain_at V hash p at.Counts plain = (tt, tt)
plain_at V hash p (at.Tallies word fault) plain = (tt, tt)
plain_at V hash p (at.Unmarks word fault) plain = (tt, tt)
plain_at V hash p (at.Unclaims fault) plain = (tt, tt)
plain_at V hash p at.Promotes plain = (tt, tt)
plain_at V hash p at.Announces plain = (tt, tt)
plain_at V hash p (at.Succeeds table) plain = (tt, tt)
plain_at V hash p (at.Retires settle rest) plain = absurd plain
plain_at V hash p at.Over plain = (tt, tt)
plain_at V hash p (at.Refused fault) plain = (tt, tt)
