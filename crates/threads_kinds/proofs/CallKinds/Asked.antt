-- How a call on one key goes on where it asks, or goes by what it was told.
use Rattle.std.specs.Prelude.{◌==◌, if◌then◌else◌, Option}
use Rattle.std.proofs.Common.{◌≡◌, ◌⊎◌, ℕ, Bool, true, false, inl, inr, refl, sym, subst, ap, ◌∙◌}
use Rattle.std.proofs.lemmas.Bool.{eq-eqb}
use Rattle.seize_words.specs.OneMemory.Word.{block_in}
use Rattle.map_tables.specs.declared.marks.TheConstants.{TOMBSTONE}
use Rattle.map_tables.specs.declared.node.Node.{Node}
use Rattle.papaya_raw.specs.CallPoints.{standing, going, over, ending, storing, burying, at_gap, gap_by, asking_at, pair_by, asking_of}
use Rattle.papaya_raw.specs.declared.machines.answer.Called.{Called}
use Rattle.papaya_raw.specs.declared.machines.answer.End.{End}
use Rattle.papaya_raw.specs.declared.machines.answer.End.TheVariants as ends
use Rattle.papaya_raw.specs.declared.machines.answer.There.TheVariants as there
use Rattle.papaya_raw.specs.declared.machines.answer.Missing.TheVariants as missing
use Rattle.papaya_raw.specs.declared.machines.asking.Asking.TheVariants as asking
use Rattle.papaya_raw.specs.declared.machines.asking.Gap.{Gap}
use Rattle.papaya_raw.specs.declared.machines.asking.Gap.TheVariants as gaps
use Rattle.papaya_raw.specs.declared.machines.asking.Replies.{Replies}
use Rattle.papaya_raw.specs.declared.machines.asking.Told.{Told}
use Rattle.papaya_raw.specs.declared.machines.asking.Told.TheVariants as tells
use Rattle.papaya_raw.specs.declared.machines.call.Calling.{Calling}
use Rattle.papaya_raw.specs.declared.machines.call.Calling.TheVariants as at
use Rattle.papaya_raw.specs.declared.machines.call.KeyCall.{KeyCall}
use Rattle.threads_kinds.specs.CallKinds.Kinds.{Kind, Stage, IsUntold, IsReplied, IsNoValue, IsOneValue, IsOfGap, IsFresh, HoldsBy, IsAtPointSo, PairIsVisible, IsSo, Continues, SaysSo}

module _ {K V : Type 0} where
  -- a value that has still to be put into a block is that of a call that has none
  abbrev pub IsToPut : Told V → Replies K V → ℕ → Type 0
  IsToPut (tells.Value value) r own = IsFresh r.key own
  IsToPut _ r own = Unit {0}

  module _ (r : Replies K V) (own : ℕ) where
    absent_by : (told : Bool) → HoldsBy told r own → (t : Told V) → r.absent ≡ t → IsToPut t r own
    absent_by false h (tells.Value value) e = h.0
    absent_by true h (tells.Value value) e = elim h.1 as (λ _. IsFresh r.key own) [
      | inl fresh ↦ fresh.0
      | inr none ↦ absurd (subst IsNoValue e none.0)
    ]
    absent_by told h tells.Nothing e = tt
    absent_by told h tells.Own e = tt
    absent_by told h tells.Removes e = tt

    present_by : (told : Bool) → HoldsBy told r own → (t : Told V) → r.present ≡ t → IsToPut t r own
    present_by false h (tells.Value value) e = h.0
    present_by true h (tells.Value value) e = elim h.1 as (λ _. IsFresh r.key own) [
      | inl fresh ↦ fresh.0
      | inr none ↦ absurd (subst IsNoValue e none.1)
    ]
    present_by told h tells.Nothing e = tt
    present_by told h tells.Own e = tt
    present_by told h tells.Removes e = tt

    pub of_gap : (told : Bool) → HoldsBy told r own → IsOfGap r.absent
    of_gap false h = by r.absent h.1
      where
        by : (t : Told V) → IsUntold t → IsOfGap t
        by tells.Nothing is = tt
        by (tells.Value value) is = absurd is
        by tells.Own is = absurd is
        by tells.Removes is = absurd is
    of_gap true h = h.0

    -- who has a block of its own was told a value, which is there
    pub none_left : (told : Bool) → HoldsBy told r own → (own == 0) ≡ false → (told ≡ true) × IsNoValue r.absent × IsNoValue r.present
    none_left false h has = absurd (cc (has, eq-eqb own 0 h.0.2))
    none_left true h has = elim h.1 as (λ _. (true ≡ true) × IsNoValue r.absent × IsNoValue r.present) [
      | inl fresh ↦ absurd (cc (has, eq-eqb own 0 fresh.0.2))
      | inr none ↦ (refl, none.0, none.1)
    ]

    -- a block of its own may go
    pub holds_none : (told : Bool) → HoldsBy told r own → HoldsBy told r 0
    holds_none false h = ((h.0.0, h.0.1, refl), h.1, h.2)
    holds_none true h = (
      h.0,
      elim h.1 as (λ _. (IsFresh r.key 0 × IsOneValue r.absent r.present) ⊎ (IsNoValue r.absent × IsNoValue r.present)) [
        | inl fresh ↦ inl ((fresh.0.0, fresh.0.1, refl), fresh.1)
        | inr none ↦ inr none
      ],
    )

module _ {K V Q : Type 0} (k : Kind) (s : Stage) (shown : ℕ → Option (Node K V)) (c : KeyCall K V Q) (is : IsSo k s c) where
  abbrev pub Says : KeyCall K V Q × Called (Node K V) → Type 0
  Says end = SaysSo k s shown end

  -- it stands elsewhere, with nothing else changed
  pub so_at : (stands : Calling) → IsSo k s (standing c stands)
  so_at stands = record { kind = is.kind; holds = is.holds; gap = is.gap }

  pub goes_at : (stands : Calling) → IsAtPointSo s.told c.replies c.own stands → Continues k s (standing c stands)
  goes_at stands here = record { so = so_at stands; here = here }

  pub over_says : (end : End) → Says (over c end)
  over_says (ends.Answered answer) = goes_at (at.Over (ends.Answered answer)) tt
  over_says (ends.Refused fault) = goes_at (at.Over (ends.Refused fault)) tt

  pub ending_says : (end : End) → Says (ending c end)
  ending_says end = by (c.own == 0)
    where
      by : (b : Bool) → Says (if b then over c end else going c (at.Drops end))
      by true = over_says end
      by false = goes_at (at.Drops end) tt

  -- it puts its own block there, once that has its value
  storing_says : (t : Told V) → (told : Bool) → s.told ≡ told → IsToPut t c.replies c.own → IsReplied t → IsOfGap t → (word : ℕ) → Says (storing t c word)
  storing_says tells.Own told e put is_told gap word = goes_at (at.Tries word c.own) tt
  storing_says (tells.Value value) told e put is_told gap word = goes_at (at.Asks (asking.Fills word)) put
  storing_says tells.Nothing told e put is_told gap word = absurd is_told
  storing_says tells.Removes told e put is_told gap word = absurd gap

  pub burying_says : (word : ℕ) → Says (burying c word)
  burying_says word = by (c.own == 0) refl
    where
      by : (b : Bool) → (c.own == 0) ≡ b → Says (if b then going c (at.Tries word TOMBSTONE) else going c (at.Asks (asking.GivesUp word)))
      by true e = goes_at (at.Tries word TOMBSTONE) tt
      by false e = goes_at (at.Asks (asking.GivesUp word)) (none_left c.replies c.own s.told is.holds e)

  -- where the key is missing
  pub at_gap_says : IsReplied c.replies.absent → (gap : Gap) → Says (at_gap gap c)
  at_gap_says told gaps.NoTable = record { so = record { kind = is.kind; holds = is.holds; gap = is.gap }; here = tt }
  at_gap_says told gaps.Free =
      storing_says c.replies.absent s.told refl (absent_by c.replies c.own s.told is.holds c.replies.absent refl) told (of_gap c.replies c.own s.told is.holds) 0
  at_gap_says told gaps.Past = record { so = record { kind = is.kind; holds = is.holds; gap = is.gap }; here = tt }
  at_gap_says told gaps.Last = record { so = record { kind = is.kind; holds = is.holds; gap = is.gap }; here = tt }

  asking_says : k.absent ≡ missing.Asks → (gap : Gap) → Says (asking_at gap c)
  asking_says asks gap = by c.replies.absent refl
    where
      by : (t : Told V) → c.replies.absent ≡ t → Says (gap_by t gap c)
      by tells.Nothing e = (so_at (at.Asks (asking.Absent gap)), record { gap = gap; asks = asks; here = refl; untold = subst IsUntold (sym e) tt })
      by tells.Own e = at_gap_says (subst IsReplied (sym e) tt) gap
      by (tells.Value value) e = at_gap_says (subst IsReplied (sym e) tt) gap
      by tells.Removes e = at_gap_says (subst IsReplied (sym e) tt) gap

  pub gap_says : c.missing ≡ missing.Asks → (gap : Gap) → Says (asking_at gap c)
  gap_says asks gap = asking_says (sym (ap (λ (x : Kind). x.absent) is.kind) ∙ asks) gap

  -- where it is there
  pub pair_says : c.there ≡ there.Asks → (word : ℕ) → PairIsVisible shown word → Says (asking_of c word)
  pair_says asks word shows = choose (block_in word == c.replies.pair)
    where
      by : (t : Told V) → IsToPut t c.replies c.own → Says (pair_by t c word)
      by tells.Nothing put = (so_at (at.Asks (asking.Present word)), record { asks = sym (ap (λ (x : Kind). x.present) is.kind) ∙ asks; here = refl; shows = shows })
      by tells.Removes put = burying_says word
      by tells.Own put = storing_says tells.Own s.told refl put tt tt word
      by (tells.Value value) put = storing_says (tells.Value value) s.told refl put tt tt word

      choose : (b : Bool) → Says (if b then pair_by c.replies.present c word else pair_by tells.Nothing c word)
      choose true = by c.replies.present (present_by c.replies c.own s.told is.holds c.replies.present refl)
      choose false = by tells.Nothing tt
