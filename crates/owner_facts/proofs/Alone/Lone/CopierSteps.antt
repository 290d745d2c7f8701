-- In incremental mode, each step of a copier that looks for no place: where it goes on, or what it waits for.
use Rattle.std.specs.Prelude.{◌==◌, ◌/◌, nat_lt, if◌then◌else◌, Some, bit_or}
use Rattle.std.proofs.Common.{◌≡◌, ℕ, ◌+◌, ◌%◌, ◌^◌, Bool, true, false, ◌⊎◌, inl, inr, refl}
use Rattle.many_maps.specs.Given.SeizeWordsDeclared.at.At.TheVariants.{Root, Word}
use Rattle.many_maps.specs.Given.SeizeWordsDeclared.fault.Fault.{Fault}
use Rattle.many_maps.specs.Given.SeizeWordsMem.{Mem, Took, value_at, word_at, with_word}
use Rattle.many_maps.specs.Given.SeizeWordsPlan.{Steps, Ends, Now, Seeing}
use Rattle.many_maps.proofs.Given.SeizeWordsOneOwner.Operations.{loaded, stored, added, ored, exchanged}
use Rattle.many_maps.proofs.Given.SeizeWordsPlans.{ends_if}
use Rattle.many_maps.specs.Given.TablesNodes.{table_seen}
use Rattle.many_maps.specs.Given.TablesTablePlaces.{at_word, at_place}
use Rattle.many_maps.specs.Given.ResizeCopierStates.{standing, behind, none_left, next_place, place_done}
use Rattle.many_maps.specs.Given.ResizeCopierClaims.{begins, follows, asks, sees, claims, root_read, next_read, status_read, claim_read, claimed, chunk, range_claimed, to}
use Rattle.many_maps.specs.Given.ResizeCopierMarks.{marks, covers, marked as place_marked, mine_marked, is_mine, is_awaited, probing, without_copying, key_hash}
use Rattle.many_maps.specs.Given.ResizeCopierCounts.{counts, tallies, unmarks, unclaims, counted, given_up}
use Rattle.many_maps.specs.Given.ResizeCopierPromotes.{promotes, announces, succeeds, promoted, successor_read, retiring_table, also_retired}
use Rattle.many_maps.specs.Given.TablesDeclared.marks.TheConstants.{COPYING, COPIED}
use Rattle.many_maps.specs.Given.TablesDeclared.node.Node.{Node}
use Rattle.many_maps.specs.Given.ResizeDeclared.yielding.Yielding.{Yielding}
use Rattle.many_maps.specs.Given.ResizeDeclared.yielding.Yielding.TheVariants.{Goes, Waits}
use Rattle.many_maps.specs.Given.TablesDeclared.status.TheConstants.Status.{ABORTED, PROMOTED}
use Rattle.many_maps.specs.Given.TablesDeclared.table.Table.{Table}
use Rattle.many_maps.specs.Given.TablesDeclared.table_words.TheConstants.{NEXT, CLAIM, STATUS, COPIED as COUNT}
use Rattle.many_maps.specs.Given.ResizeDeclared.copier.Copier.{Copier}
use Rattle.many_maps.specs.Given.ResizeDeclared.copier.Copying.{Copying as Point}
use Rattle.many_maps.specs.Given.ResizeDeclared.copier.Copying.TheVariants as at
use Rattle.owner_facts.proofs.Alone.Lone.QuietPoints.{GoesTo, quiet_none_left, quiet_next}

module _ {K V : Type 0} (p : Copier) (m m2 : Mem (Node K V)) (end : Copier × Yielding (Node K V) Table) where
  -- it goes on
  abbrev pub LeadsOn : Point → Type 0
  LeadsOn stands = (q : Copier) × (end ≡ (q, Goes)) × GoesTo stands q.stands

  -- it waits for another caller
  abbrev pub WaitsFor : Type 0 → Type 0
  WaitsFor Other = (end ≡ (p, Waits)) × Other

  -- a place is marked, and another caller is to copy it
  abbrev pub AwaitsPlace : Type 0
  AwaitsPlace = (word : ℕ) × (word_at m (at_place p.source p.place) ≡ Some word) × (is_mine p word ≡ false) × (is_awaited p word ≡ true)

  -- the table that is copied into is not said to be promoted
  abbrev pub AwaitsStatus : Type 0
  AwaitsStatus = (status : ℕ) × (word_at m (at_word p.target STATUS) ≡ Some status) × ((status == PROMOTED) ≡ false)

  pub leads_begins : Steps Took value_at m (begins p) m2 end → LeadsOn at.Begins
  leads_begins s =
      let l = loaded m (root_read p) (Root p.setting.root) m2 end s in
      (record p { source = table_seen l.0 l.3.0; stands = at.Follows }, l.3.2, tt)

  pub leads_follows : Steps Took value_at m (follows p) m2 end → LeadsOn at.Follows
  leads_follows s =
      let l = loaded m (next_read p) (at_word p.source NEXT) m2 end s in
      by l.0 (ends_if (value_at m) (l.0 == 0) (to (standing p at.Over)) (Seeing (l.0 / 2048) (λ value. to (record p { target = table_seen l.0 value; stands = at.Sees }))) end l.3)
    where
      by : (link : ℕ) → (((link == 0) ≡ true) × (end ≡ (standing p at.Over, Goes)))
          ⊎ (((link == 0) ≡ false) × Ends (value_at m) (Seeing (link / 2048) (λ value. to (record p { target = table_seen link value; stands = at.Sees }))) end)
          → LeadsOn at.Follows
      by link (inl e) = (standing p at.Over, e.1, tt)
      by link (inr e) = (record p { target = table_seen link e.1.0; stands = at.Sees }, e.1.2, tt)

  -- a copier that has nothing left to claim
  pub leads_asks : p.spent ≡ true → Steps Took value_at m (asks p) m2 end → WaitsFor AwaitsStatus ⊎ LeadsOn at.Asks
  leads_asks spent s =
      let l = loaded m (status_read p) (at_word p.target STATUS) m2 end s in by l.0 l.1 (l.0 == PROMOTED) (l.0 == ABORTED) p.spent refl spent l.3
    where
      by : (status : ℕ) → word_at m (at_word p.target STATUS) ≡ Some status → (a b q : Bool) → (status == PROMOTED) ≡ a → q ≡ true
          → Ends (value_at m)
          (if a then to (standing p at.Over) else (if b then to (record p { spent = false; stands = at.Replaces }) else (if q then Now (p, Waits) else to (standing p at.Sees)))) end
          → WaitsFor AwaitsStatus ⊎ LeadsOn at.Asks
      by status read true b q other all e = inr (standing p at.Over, e, tt)
      by status read false true q other all e = inr (record p { spent = false; stands = at.Replaces }, e, tt)
      by status read false false true other all e = inl (e, (status, read, other))
      by status read false false false other all e = absurd (cc all)

  pub leads_sees : Steps Took value_at m (sees p) m2 end → LeadsOn at.Sees
  leads_sees s =
      let l = loaded m (claim_read p) (at_word p.target CLAIM) m2 end s in by (nat_lt l.0 p.source.len) l.3
    where
      by : (b : Bool) → Ends (value_at m) (if b then to (standing p at.Claims) else to (none_left p)) end → LeadsOn at.Sees
      by true e = (standing p at.Claims, e, tt)
      by false e = (none_left p, e, quiet_none_left p)

  pub leads_claims : Steps Took value_at m (claims p) m2 end → LeadsOn at.Claims
  leads_claims s =
      let l = added m (claimed p) (at_word p.target CLAIM) (chunk p) m2 end s in
      by (with_word m (at_word p.target CLAIM) ((l.0 + chunk p) % 2 ^ 64)) l.0 (nat_lt l.0 p.source.len) l.3
    where
      by : (n : Mem (Node K V)) (claim : ℕ) (b : Bool) → Ends (value_at n) (if b then to (range_claimed p claim) else to (none_left p)) end
          → LeadsOn at.Claims
      by n claim true e = ((range_claimed p claim), e, tt)
      by n claim false e = (none_left p, e, quiet_none_left p)

  pub leads_marks : (hash : K → ℕ) → Steps Took value_at m (marks hash p) m2 end → WaitsFor AwaitsPlace ⊎ LeadsOn at.Marks
  leads_marks hash s =
      let l = ored m (place_marked hash p) (at_place p.source p.place) COPYING m2 end s in
      by (with_word m (at_place p.source p.place) (bit_or l.0 COPYING)) l.0 l.1 (is_mine p l.0) (is_awaited p l.0) refl refl l.3
    where
      mine : (n : Mem (Node K V)) (word : ℕ) (b : Bool)
          → Ends (value_at n)
          (if b then to (place_done p) else Seeing (word / 2048) (λ value. to (probing p (without_copying word) (key_hash hash value) p.target))) end
          → LeadsOn at.Marks
      mine n word true e = (place_done p, e, quiet_next (record p { done = (p.done + 1) % 2 ^ 64 }))
      mine n word false e = ((probing p (without_copying word) (key_hash hash e.0) p.target), e.2, tt)

      by : (n : Mem (Node K V)) (word : ℕ) → word_at m (at_place p.source p.place) ≡ Some word → (a b : Bool) → is_mine p word ≡ a → is_awaited p word ≡ b
          → Ends (value_at n) (if a then mine_marked hash p word else (if b then Now (p, Waits) else to (next_place p))) end
          → WaitsFor AwaitsPlace ⊎ LeadsOn at.Marks
      by n word read true b own waits e = inr (mine n word (word / 2048 == 0) e)
      by n word read false true own waits e = inl (e, (word, read, own, waits))
      by n word read false false own waits e = inr (next_place p, e, quiet_next p)

  pub leads_covers : (word : ℕ) → Steps Took value_at m (covers p word) m2 end → LeadsOn (at.Covers word)
  leads_covers word s =
      let l = stored m (λ out. to (place_done p)) (at_place p.source p.place) (bit_or (bit_or word COPYING) COPIED) m2 end s in
      (place_done p, l.1, quiet_next (record p { done = (p.done + 1) % 2 ^ 64 }))

  pub leads_counts : Steps Took value_at m (counts p) m2 end → LeadsOn at.Counts
  leads_counts s =
      let l = added m (counted p) (at_word p.target COUNT) p.done m2 end s in
      by (with_word m (at_word p.target COUNT) ((l.0 + p.done) % 2 ^ 64)) ((l.0 + p.done) % 2 ^ 64 == p.source.len) l.3
    where
      by : (n : Mem (Node K V)) (b : Bool)
          → Ends (value_at n) (if b then to (record p { place = 0; end = 0; done = 0; stands = at.Promotes }) else to (behind (record p { done = 0 }))) end
          → LeadsOn at.Counts
      by n true e = (record p { place = 0; end = 0; done = 0; stands = at.Promotes }, e, tt)
      by n false e = ((behind (record p { done = 0 })), e, tt)

  pub leads_tallies : (word : ℕ) (fault : Fault) → Steps Took value_at m (tallies p word fault) m2 end → LeadsOn (at.Tallies word fault)
  leads_tallies word fault s =
      let l = added m (λ out. to (record p { done = 0; stands = at.Unmarks word fault })) (at_word p.target COUNT) p.done m2 end s in
      (record p { done = 0; stands = at.Unmarks word fault }, l.3, tt)

  pub leads_unmarks : (word : ℕ) (fault : Fault) → Steps Took value_at m (unmarks p word fault) m2 end → LeadsOn (at.Unmarks word fault)
  leads_unmarks word fault s =
      let l = stored m (λ out. to (standing p (at.Unclaims fault))) (at_place p.source p.place) word m2 end s in
      ((standing p (at.Unclaims fault)), l.1, tt)

  pub leads_unclaims : (fault : Fault) → Steps Took value_at m (unclaims p fault) m2 end → LeadsOn (at.Unclaims fault)
  leads_unclaims fault s =
      let l = stored m (λ out. to (given_up p fault)) (at_word p.target CLAIM) 0 m2 end s in
      ((given_up p fault), l.1, tt)

  pub leads_promotes : Steps Took value_at m (promotes p) m2 end → LeadsOn at.Promotes
  leads_promotes s = elim (exchanged m (promoted p) (Root p.setting.root) p.source.link p.target.link m2 end s) as (λ _. LeadsOn at.Promotes) [
    | inl d ↦ (standing p at.Announces, d.3, tt)
    | inr d ↦ (behind p, d.3, tt)
  ]

  pub leads_announces : Steps Took value_at m (announces p) m2 end → LeadsOn at.Announces
  leads_announces s =
      let l = stored m (λ out. to (standing p (at.Succeeds p.source.link))) (at_word p.target STATUS) PROMOTED m2 end s in
      ((standing p (at.Succeeds p.source.link)), l.1, tt)

  pub leads_succeeds : (table : ℕ) → Steps Took value_at m (succeeds p table) m2 end → LeadsOn (at.Succeeds table)
  leads_succeeds table s =
      let l = loaded m (successor_read p table) (Word (table / 2048) NEXT) m2 end s in
      ((retiring_table p table (also_retired p l.0)), l.3, tt)
