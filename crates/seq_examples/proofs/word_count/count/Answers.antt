-- What is found after the insertion is what was stored, in whatever order the pairs are then.
use Rattle.std.specs.Cmp.Lexicographic.{nat_list_eq_equiv}
use Rattle.std.specs.Option.{option_map, unwrap_or}
use Rattle.std.specs.Str.{bytes_eq}
use Rattle.std.proofs.Common.{rules, ◌≡◌, ◌∙◌, ◌+◌, ◌++◌, ◌∷◌, [], ℕ, List, ap}
use Rattle.papaya_seq.specs.Pairs.{left_by}
use Rattle.papaya_seq.proofs.Given.{put_is_found}
use Rattle.seq_examples.specs.Counts.{count_of}
use Rattle.seq_examples.proofs.word_count.count.Goals as goal

-- a count that was put in the place of that of its word is found
put_counts : (word key : List ℕ) (count : ℕ) (pairs : List (List ℕ × ℕ)) → key ≡ word → count_of word (left_by (bytes_eq key) pairs ++ ((key, count) ∷ [])) ≡ count
put_counts word key count pairs is =
    rw is (ap (λ o. unwrap_or (option_map (λ x. x.1) o) 0) ((put_is_found _ _ (bytes_eq word) pairs).1 (word, count) (nat_list_eq_equiv.refl word)))

pub returns-clause-one_more : goal.returns-clause-one_more
returns-clause-one_more c =
    c.count_of-2.ensures.in_any_order (left_by (bytes_eq c.in_ok-new.field-0) c.args.counts.now.pairs ++ ((c.in_ok-new.field-0, c.in-Some.count) ∷ [])) (search rules)
    ∙ put_counts c.args.word.now c.in_ok-new.field-0 c.in-Some.count c.args.counts.now.pairs c.in_ok-new.ensures
    ∙ c.in-Some.ensures.1 ∙ ap (λ n. n + 1) c.count_of.ensures.count
