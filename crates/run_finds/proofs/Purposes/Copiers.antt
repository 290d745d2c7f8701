-- A copier of a whole table goes on from its table, into the one that it copies into or into another one that it begins anew with; and ends with the former.
use Rattle.std.specs.Prelude.{◌≡◌, ℕ, ◌+◌, ◌-◌, ◌%◌, ◌^◌, ◌==◌, nat_lt, Bool, true, false, Ok, Err, if◌then◌else◌, ◌⊎◌}
use Rattle.std.proofs.Common.{refl, inl, inr}
use Rattle.run_finds.specs.Given.SeizeWordsWord.{block_in}
use Rattle.run_finds.specs.Given.SeizeWordsOp.{Out, Found, Stored, Exchanged, Made, Taken, Roomed}
use Rattle.run_finds.specs.Given.SeizeWordsDeclared.fault.Fault.{Fault}
use Rattle.run_finds.specs.Given.SeizeDeclared.advance.Advance.{Advance as Counted}
use Rattle.run_finds.specs.Given.SeizeDeclared.advance.Advance.TheVariants as counted
use Rattle.run_finds.specs.Given.SeizeDeclared.rows.settle.Settle.{Settle}
use Rattle.run_finds.specs.Given.SeizeDeclared.rows.settle.Settled.{Settled}
use Rattle.run_finds.specs.Given.SeizeDeclared.rows.settle.Settled.TheVariants as settled
use Rattle.run_finds.specs.Given.SeizeSettle.{settle_plan}
use Rattle.run_finds.specs.Given.TablesChunks.{is_incremental}
use Rattle.run_finds.specs.Given.TablesNodes.{deferred_word}
use Rattle.run_finds.specs.Given.TablesDeclared.node.Node.{Node}
use Rattle.run_finds.specs.Given.TablesDeclared.probe.Probe.{Probe}
use Rattle.run_finds.specs.Given.TablesDeclared.status.TheConstants.Status.{ABORTED, PROMOTED}
use Rattle.run_finds.specs.Given.TablesDeclared.table.Table.{Table}
use Rattle.run_finds.specs.Given.ResizeCopier.{plan_at}
use Rattle.run_finds.specs.Given.ResizeCopierClaims.{status_read, claim_read, claimed, range_claimed}
use Rattle.run_finds.specs.Given.ResizeCopierCounts.{refusing, counted as count_read}
use Rattle.run_finds.specs.Given.ResizeCopierFurther.{further_read, grown, replacement_read, remade}
use Rattle.run_finds.specs.Given.ResizeCopierMarks.{is_mine, is_awaited, mine_marked, marked}
use Rattle.run_finds.specs.Given.ResizeCopierPlaces.{next_try, pair_put, place_read, after_put}
use Rattle.run_finds.specs.Given.ResizeCopierPromotes.{promoted, successor_read, table_retired, retired}
use Rattle.run_finds.specs.Given.ResizeCopierStates.{behind, none_left, next_place, place_done}
use Rattle.run_finds.specs.Given.ResizeNewTable.{new_table_plan}
use Rattle.run_finds.specs.Given.ResizeDeclared.copier.Copier.{Copier}
use Rattle.run_finds.specs.Given.ResizeDeclared.copier.Copying.{Copying}
use Rattle.run_finds.specs.Given.ResizeDeclared.copier.Copying.TheVariants as at
use Rattle.run_finds.specs.Given.ResizeDeclared.new_table.NewTable.{NewTable}
use Rattle.run_finds.specs.Given.ResizeDeclared.yielding.Yielding.{Yielding}
use Rattle.run_finds.specs.Given.ResizeDeclared.yielding.Yielding.TheVariants as outcome
use Rattle.run_finds.proofs.Given.RuleKeys.Always.{Always, AlwaysOf, always_if, always_plan_as}

-- it is to copy a whole table, and knows which
abbrev pub KnowsTables : Copying → Type 0
KnowsTables at.Begins = ⊥
KnowsTables at.Follows = ⊥
KnowsTables _ = Unit {0}

abbrev pub IsSame : Copier → Copier → Type 0
IsSame p q = (q.source ≡ p.source) × (q.target ≡ p.target)

behind_same : (p : Copier) → IsSame p (behind p)
behind_same p = by p.whole
  where
    by : (b : Bool) → IsSame p (if b then record p { place = 0; end = 0; spent = is_incremental p.setting.mode; stands = at.Asks } else record p { stands = at.Over })
    by true = (refl, refl)
    by false = (refl, refl)

left_same : (p : Copier) → IsSame p (none_left p)
left_same p = by p.whole
  where
    by : (b : Bool) → IsSame p (if b then record p { spent = true; stands = at.Asks } else record p { stands = at.Over })
    by true = (refl, refl)
    by false = (refl, refl)

next_same : (p : Copier) → IsSame p (next_place p)
next_same p = by (nat_lt p.place (p.end - 1)) (p.done == 0)
  where
    by : (a b : Bool) → IsSame p (if a then record p { place = p.place + 1; stands = at.Marks } else (if b then behind p else record p { stands = at.Counts }))
    by true b = (refl, refl)
    by false true = behind_same p
    by false false = (refl, refl)

done_same : (p : Copier) → IsSame p (place_done p)
done_same p = next_same (record p { done = (p.done + 1) % 2 ^ 64 })

refusing_same : (p : Copier) (word : ℕ) (fault : Fault) → IsSame p (refusing p word fault)
refusing_same p word fault = by (p.done == 0)
  where
    by : (b : Bool) → IsSame p (if b then record p { stands = at.Unmarks word fault } else record p { stands = at.Tallies word fault })
    by true = (refl, refl)
    by false = (refl, refl)

try_same : (p : Copier) (word hash : ℕ) (table : Table) (probe : Probe) → IsSame p (next_try p word hash table probe)
try_same p word hash table probe = by (nat_lt probe.len table.limit) (is_incremental p.setting.mode) _ _ (refl, refl) (refl, refl)
  where
    by : (a b : Bool) (x y : Copier) → IsSame p x → IsSame p y → IsSame p (if a then x else (if b then y else record p { place = 0; end = 0; done = 0; stands = at.Aborts }))
    by true b x y h k = h
    by false true x y h k = k
    by false false x y h k = (refl, refl)

put_same : (p : Copier) (word : ℕ) → IsSame p (pair_put p word)
put_same p word = by (is_incremental p.setting.mode)
  where
    by : (b : Bool) → IsSame p (if b then record p { stands = at.Covers word } else place_done p)
    by true = (refl, refl)
    by false = done_same p

retired_same : (p : Copier) (rest : ℕ) → IsSame p (table_retired p rest)
retired_same p rest = by (rest == 0)
  where
    by : (b : Bool) → IsSame p (if b then record p { stands = at.Over } else record p { stands = at.Succeeds rest })
    by true = (refl, refl)
    by false = (refl, refl)

module _ (K V : Type 0) (p : Copier) where
  -- where it goes on, and with which table it ends
  abbrev pub Keeps : Copier × Yielding (Node K V) Table → Type 0
  Keeps (q, outcome.Done table) = table ≡ p.target
  Keeps (q, _) = (q.source ≡ p.source) × ((q.target ≡ p.target) ⊎ (q.stands ≡ at.Asks))

  goes : (q : Copier) → IsSame p q → Keeps (q, outcome.Goes)
  goes q same = (same.0, inl same.1)

  stays : Keeps (p, outcome.Goes)
  stays = goes p (refl, refl)

  status_keeps : (out : Out (Node K V)) → Always Keeps (status_read p out)
  status_keeps (Found status) =
      always_if Keeps (status == PROMOTED) _ _ (refl, inl refl)
      (always_if Keeps (status == ABORTED) _ _ (refl, inl refl) (always_if Keeps p.spent _ _ (refl, inl refl) (refl, inl refl)))
  status_keeps Stored = stays
  status_keeps (Exchanged r) = stays
  status_keeps (Made r) = stays
  status_keeps (Taken value) = stays
  status_keeps (Roomed r) = stays

  seen_keeps : (out : Out (Node K V)) → Always Keeps (claim_read p out)
  seen_keeps (Found claim) = always_if Keeps (nat_lt claim p.source.len) _ _ (refl, inl refl) (goes (none_left p) (left_same p))
  seen_keeps Stored = stays
  seen_keeps (Exchanged r) = stays
  seen_keeps (Made r) = stays
  seen_keeps (Taken value) = stays
  seen_keeps (Roomed r) = stays

  claimed_keeps : (out : Out (Node K V)) → Always Keeps (claimed p out)
  claimed_keeps (Found claim) = always_if Keeps (nat_lt claim p.source.len) _ _ (goes (range_claimed p claim) (refl, refl)) (goes (none_left p) (left_same p))
  claimed_keeps Stored = stays
  claimed_keeps (Exchanged r) = stays
  claimed_keeps (Made r) = stays
  claimed_keeps (Taken value) = stays
  claimed_keeps (Roomed r) = stays

  mine_keeps : (hash : K → ℕ) (word : ℕ) → Always Keeps (mine_marked hash p word)
  mine_keeps hash word = always_if Keeps (block_in word == 0) _ _ (goes (place_done p) (done_same p)) (λ value. (refl, inl refl))

  marked_keeps : (hash : K → ℕ) (out : Out (Node K V)) → Always Keeps (marked hash p out)
  marked_keeps hash (Found word) =
      always_if Keeps (is_mine p word) _ _ (mine_keeps hash word) (always_if Keeps (is_awaited p word) _ _ (refl, inl refl) (goes (next_place p) (next_same p)))
  marked_keeps hash Stored = stays
  marked_keeps hash (Exchanged r) = stays
  marked_keeps hash (Made r) = stays
  marked_keeps hash (Taken value) = stays
  marked_keeps hash (Roomed r) = stays

  place_keeps : (word hash : ℕ) (table : Table) (probe : Probe) (out : Out (Node K V)) → Always Keeps (place_read p word hash table probe out)
  place_keeps word hash table probe (Found found) =
      always_if Keeps (found == 0) _ _ (refl, inl refl) (goes (next_try p word hash table probe) (try_same p word hash table probe))
  place_keeps word hash table probe Stored = stays
  place_keeps word hash table probe (Exchanged r) = stays
  place_keeps word hash table probe (Made r) = stays
  place_keeps word hash table probe (Taken value) = stays
  place_keeps word hash table probe (Roomed r) = stays

  put_keeps : (word hash : ℕ) (table : Table) (probe : Probe) (out : Out (Node K V)) → Always Keeps (after_put p word hash table probe out)
  put_keeps word hash table probe (Exchanged (Ok found)) = goes (pair_put p word) (put_same p word)
  put_keeps word hash table probe (Exchanged (Err found)) = goes (next_try p word hash table probe) (try_same p word hash table probe)
  put_keeps word hash table probe (Found found) = stays
  put_keeps word hash table probe Stored = stays
  put_keeps word hash table probe (Made r) = stays
  put_keeps word hash table probe (Taken value) = stays
  put_keeps word hash table probe (Roomed r) = stays

  further_keeps : (word hash : ℕ) (table : Table) (out : Out (Node K V)) → Always Keeps (further_read p word hash table out)
  further_keeps word hash table (Found link) = always_if Keeps (link == 0) _ _ (refl, inl refl) (λ value. (refl, inl refl))
  further_keeps word hash table Stored = stays
  further_keeps word hash table (Exchanged r) = stays
  further_keeps word hash table (Made r) = stays
  further_keeps word hash table (Taken value) = stays
  further_keeps word hash table (Roomed r) = stays

  grown_keeps : (word hash : ℕ) (end : NewTable × Counted Table) → Keeps (grown p word hash end)
  grown_keeps word hash (making, counted.Goes) = (refl, inl refl)
  grown_keeps word hash (making, counted.Waits) = (refl, inl refl)
  grown_keeps word hash (making, counted.Done table) = (refl, inl refl)
  grown_keeps word hash (making, counted.Refused fault) = goes (refusing p word fault) (refusing_same p word fault)

  -- it begins anew with another table
  replaced_keeps : (out : Out (Node K V)) → Always Keeps (replacement_read p out)
  replaced_keeps (Found link) = always_if Keeps (link == 0) _ _ (refl, inl refl) (λ value. (refl, inr refl))
  replaced_keeps Stored = stays
  replaced_keeps (Exchanged r) = stays
  replaced_keeps (Made r) = stays
  replaced_keeps (Taken value) = stays
  replaced_keeps (Roomed r) = stays

  remade_keeps : (end : NewTable × Counted Table) → Keeps (remade p end)
  remade_keeps (making, counted.Goes) = (refl, inl refl)
  remade_keeps (making, counted.Waits) = (refl, inl refl)
  remade_keeps (making, counted.Done table) = (refl, inr refl)
  remade_keeps (making, counted.Refused fault) = (refl, inl refl)

  count_keeps : (out : Out (Node K V)) → Always Keeps (count_read p out)
  count_keeps (Found count) =
      always_if Keeps ((count + p.done) % 2 ^ 64 == p.source.len) _ _ (refl, inl refl) (goes (behind (record p { done = 0 })) (behind_same (record p { done = 0 })))
  count_keeps Stored = stays
  count_keeps (Exchanged r) = stays
  count_keeps (Made r) = stays
  count_keeps (Taken value) = stays
  count_keeps (Roomed r) = stays

  promoted_keeps : (out : Out (Node K V)) → Always Keeps (promoted p out)
  promoted_keeps (Exchanged (Ok found)) = (refl, inl refl)
  promoted_keeps (Exchanged (Err found)) = goes (behind p) (behind_same p)
  promoted_keeps (Found found) = stays
  promoted_keeps Stored = stays
  promoted_keeps (Made r) = stays
  promoted_keeps (Taken value) = stays
  promoted_keeps (Roomed r) = stays

  succeeds_keeps : (table : ℕ) (out : Out (Node K V)) → Always Keeps (successor_read p table out)
  succeeds_keeps table (Found link) = (refl, inl refl)
  succeeds_keeps table Stored = stays
  succeeds_keeps table (Exchanged r) = stays
  succeeds_keeps table (Made r) = stays
  succeeds_keeps table (Taken value) = stays
  succeeds_keeps table (Roomed r) = stays

  retired_keeps : (rest : ℕ) (end : Settle × Settled (Node K V)) → Keeps (retired p rest end)
  retired_keeps rest (settle, settled.Goes) = (refl, inl refl)
  retired_keeps rest (settle, settled.Waits) = (refl, inl refl)
  retired_keeps rest (settle, settled.Gave value) = (refl, inl refl)
  retired_keeps rest (settle, settled.Done) = goes (table_retired p rest) (retired_same p rest)

  pub copier_keeps : (hash : K → ℕ) (stands : Copying) → KnowsTables stands → AlwaysOf Keeps (plan_at hash p stands)
  copier_keeps hash at.Begins knows = absurd knows
  copier_keeps hash at.Follows knows = absurd knows
  copier_keeps hash at.Asks knows = status_keeps
  copier_keeps hash at.Sees knows = seen_keeps
  copier_keeps hash at.Claims knows = claimed_keeps
  copier_keeps hash at.Marks knows = marked_keeps hash
  copier_keeps hash (at.Probes word key table probe) knows = place_keeps word key table probe
  copier_keeps hash (at.Puts word key table probe) knows = put_keeps word key table probe
  copier_keeps hash (at.Covers word) knows = λ out. goes (place_done p) (done_same p)
  copier_keeps hash (at.Passes word key table) knows = further_keeps word key table
  copier_keeps hash (at.Grows word key making) knows = always_plan_as Keeps (grown p word key) (grown_keeps word key) (new_table_plan making)
  copier_keeps hash at.Aborts knows = λ out. (refl, inl refl)
  copier_keeps hash at.Replaces knows = replaced_keeps
  copier_keeps hash (at.Remakes making) knows = always_plan_as Keeps (remade p) remade_keeps (new_table_plan making)
  copier_keeps hash at.Counts knows = count_keeps
  copier_keeps hash (at.Tallies word fault) knows = λ out. (refl, inl refl)
  copier_keeps hash (at.Unmarks word fault) knows = λ out. (refl, inl refl)
  copier_keeps hash (at.Unclaims fault) knows = λ out. (refl, inl refl)
  copier_keeps hash at.Promotes knows = promoted_keeps
  copier_keeps hash at.Announces knows = λ out. (refl, inl refl)
  copier_keeps hash (at.Succeeds table) knows = succeeds_keeps table
  copier_keeps hash (at.Retires settle rest) knows = always_plan_as Keeps (retired p rest) (retired_keeps rest) (settle_plan deferred_word settle)
  copier_keeps hash at.Over knows = refl
  copier_keeps hash (at.Refused fault) knows = (refl, inl refl)
