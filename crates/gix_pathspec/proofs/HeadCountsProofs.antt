-- What the sets of heads count together is what each counts.
use Rattle.std.proofs.Common.{◌≡◌, ℕ, zero, suc, ◌+◌, ◌%◌, ◌^◌, ◌<◌, ◌≤◌, inl, inr, refl, sym, ◌∙◌, ap, subst, arith, All, List, [], ◌∷◌, length, take, get_or}
use Rattle.std.specs.List.{sum_by}
use Rattle.std.proofs.Math.ListN.{set}
use Rattle.std.proofs.Math.Nat.{mod-add-mod, mod-le, mod-mod}
use Rattle.std.proofs.lemmas.Bool.{cases_lt}
use Rattle.std.proofs.lemmas.List.{get_or-set_other, get_or-set_same, get_or_default}
use Rattle.std.proofs.lemmas.List.Elements.{All-head, All-tail}
use Rattle.std.proofs.lemmas.List.Sums.{sum_by-cons, sum_by_more}
use Rattle.pathspec_glob.specs.Counts.{Counts}
use Rattle.gix_pathspec.specs.declared.by_head.head_set.HeadSet.{HeadSet}
use Rattle.gix_pathspec.specs.HeadSets.{begins_of, effort_of, most_effort, total_of, IsUnread}

add_in : (m a n b c k d : ℕ) → b % m ≡ (a + n) % m → d % m ≡ (c + k) % m → (b + d) % m ≡ (a + c + (n + k)) % m
add_in m a n b c k d p q =
    sym (mod-add-mod b m d) ∙ ap (λ x. (x + d) % m) p ∙ mod-add-mod (a + n) m d ∙ ap (λ x. x % m) (flip (a + n) d)
    ∙ (sym (mod-add-mod d m (a + n)) ∙ ap (λ x. (x + (a + n)) % m) q ∙ mod-add-mod (c + k) m (a + n) ∙ ap (λ x. x % m) (sort a n c k))
  where
    flip : (x y : ℕ) → x + y ≡ y + x
    flip x y = omega arith

    sort : (x y z w : ℕ) → z + w + (x + y) ≡ x + z + (y + w)
    sort x y z w = omega arith

-- two totals grew together by what each grew
pub counts-both : (a n b c k d : ℕ) → Counts a n b → Counts c k d → Counts (a + c) (n + k) (b + d)
counts-both a n b c k d p q = add_in (2 ^ 128) a n b c k d p q

zero_in : (m n b k d : ℕ) → b % m ≡ (0 + n) % m → d % m ≡ (0 + k) % m → (b + d) % m ≡ (0 + (n + k)) % m
zero_in m n b k d p q = add_in m 0 n b 0 k d p q ∙ ap (λ x. x % m) (none (n + k))
  where
    none : (x : ℕ) → 0 + 0 + x ≡ 0 + x
    none x = omega arith

pub counts-all : (n b k d : ℕ) → Counts 0 n b → Counts 0 k d → Counts 0 (n + k) (b + d)
counts-all n b k d p q = zero_in (2 ^ 128) n b k d p q

-- sets that read nothing counted nothing
pub unread-total : (sets : List HeadSet) → All IsUnread sets → sum_by total_of sets ≡ 0
unread-total [] all = refl
unread-total (s ∷ sets) all = omega (arith, sum_by-cons total_of s sets, (All-head IsUnread s sets all).uncounted, unread-total sets (All-tail IsUnread s sets all))

-- all of them together counted what each did for the last path
pub sums-grow : (sets : List HeadSet) → Counts (sum_by (λ (s : HeadSet). s.begun) sets) (sum_by effort_of sets) (sum_by total_of sets)
sums-grow [] = refl
sums-grow (s ∷ sets) =
    let both = counts-both s.begun (effort_of s) (total_of s) (sum_by (λ (t : HeadSet). t.begun) sets) (sum_by effort_of sets) (sum_by total_of sets) s.counted (sums-grow sets) in
    subst (λ k. Counts k (sum_by effort_of (s ∷ sets)) (sum_by total_of (s ∷ sets))) (sym (sum_by-cons (λ (t : HeadSet). t.begun) s sets))
    (subst (λ k. Counts (s.begun + sum_by (λ (t : HeadSet). t.begun) sets) k (sum_by total_of (s ∷ sets))) (sym (sum_by-cons effort_of s sets))
    (subst (λ k. Counts (s.begun + sum_by (λ (t : HeadSet). t.begun) sets) (effort_of s + sum_by effort_of sets) k) (sym (sum_by-cons total_of s sets)) both))

-- where each set's count begins at its total, all begin at the sum of these
pub sums-begin : (old new : List HeadSet) → length old ≡ length new → ((k : ℕ) (d : HeadSet) → k < length new → Counts 0 (total_of (get_or old k d)) (get_or new k d).begun)
    → Counts 0 (sum_by total_of old) (sum_by (λ (s : HeadSet). s.begun) new)
sums-begin [] [] same each = refl
sums-begin [] (n ∷ new) same each = absurd (let no : ⊥ = omega (arith, same) in no)
sums-begin (o ∷ old) [] same each = absurd (let no : ⊥ = omega (arith, same) in no)
sums-begin (o ∷ old) (n ∷ new) same each =
    let both = counts-all (total_of o) n.begun (sum_by total_of old) (sum_by (λ (s : HeadSet). s.begun) new) (each 0 n (omega arith)) (sums-begin old new (omega (arith, same)) (λ k d l. each (suc k) d (omega (arith, l)))) in
    subst (λ k. Counts 0 k (sum_by (λ (s : HeadSet). s.begun) (n ∷ new))) (sym (sum_by-cons total_of o old))
    (subst (λ k. Counts 0 (total_of o + sum_by total_of old) k) (sym (sum_by-cons (λ (s : HeadSet). s.begun) n new)) both)

-- one set's effort more is few
pub effort-step : (path : List ℕ) (sets : List HeadSet) (i : ℕ) (set : HeadSet) (effort more sum : ℕ) → i < length sets → set ≡ get_or sets i set → effort ≤ sum_by (most_effort path) (take i sets)
    → more ≤ most_effort path set → sum ≡ (effort + more) % 2 ^ 128 → sum ≤ sum_by (most_effort path) (take (i + 1) sets)
effort-step path sets i set effort more sum l is so_far one wraps =
    omega (arith, wraps, mod-le (effort + more) (2 ^ 128), so_far, one, sum_by_more (most_effort path) sets i set l, ap (most_effort path) is)

-- and is counted
pub effort-count : (sets : List HeadSet) (i : ℕ) (set : HeadSet) (effort more sum : ℕ) → i < length sets → set ≡ get_or sets i set → Counts 0 (sum_by effort_of (take i sets)) effort
    → Counts 0 (effort_of set) more → sum ≡ (effort + more) % 2 ^ 128 → Counts 0 (sum_by effort_of (take (i + 1) sets)) sum
effort-count sets i set effort more sum l is so_far one wraps =
    let both : Counts 0 (sum_by effort_of (take i sets) + effort_of set) (effort + more) = counts-all (sum_by effort_of (take i sets)) effort (effort_of set) more so_far one in
    let grown : sum_by effort_of (take (i + 1) sets) ≡ sum_by effort_of (take i sets) + effort_of set = omega (arith, sum_by_more effort_of sets i set l, ap effort_of is) in
    let whole : Counts (effort + more) 0 sum = subst (λ k. sum % 2 ^ 128 ≡ k % 2 ^ 128) (plus_none (effort + more)) (ap (λ k. k % 2 ^ 128) wraps ∙ mod-mod (effort + more) (2 ^ 128)) in
    subst (λ k. Counts 0 k sum) (sym grown) (subst (λ k. sum % 2 ^ 128 ≡ k % 2 ^ 128) (plus_zero (effort + more)) whole ∙ both)
  where
    plus_none : (x : ℕ) → x ≡ x + 0
    plus_none x = omega arith

    plus_zero : (x : ℕ) → x + 0 ≡ x
    plus_zero x = omega arith

-- and where no count begins anew, the sum stays
pub same-begin : (old new : List HeadSet) → begins_of new ≡ begins_of old → sum_by (λ (s : HeadSet). s.begun) new ≡ sum_by (λ (s : HeadSet). s.begun) old
same-begin [] [] same = refl
same-begin [] (n ∷ new) same = cc
same-begin (o ∷ old) [] same = cc
same-begin (o ∷ old) (n ∷ new) same =
    let first : n.begun ≡ o.begun = cc in
    let rest : begins_of new ≡ begins_of old = cc in
    omega (arith, sum_by-cons (λ (s : HeadSet). s.begun) n new, sum_by-cons (λ (s : HeadSet). s.begun) o old, first, same-begin old new rest)

module _ (given sets : List HeadSet) (at : ℕ) (old new : HeadSet) (low : at < length sets) (is : old ≡ get_or sets at old) where
  -- one set more began anew
  pub begin-step : ((k : ℕ) (d : HeadSet) → k < at → Counts 0 (total_of (get_or given k d)) (get_or sets k d).begun) → ((k : ℕ) (d : HeadSet) → at ≤ k → get_or sets k d ≡ get_or given k d)
      → Counts 0 (total_of old) new.begun → (k : ℕ) (d : HeadSet) → k < at + 1 → Counts 0 (total_of (get_or given k d)) (get_or (set sets at new) k d).begun
  begin-step each rest here k d l = elim (cases_lt k at) [
    | inl less ↦
        let other = get_or-set_other sets at k new d (λ e. let no : ⊥ = omega (arith, e, less) in no) in
        subst (λ (s : HeadSet). Counts 0 (total_of (get_or given k d)) s.begun) (sym other) (each k d less)
    | inr g ↦
        let k_is : k ≡ at = omega (arith, l, g) in
        subst (λ j. Counts 0 (total_of (get_or given j d)) (get_or (set sets at new) j d).begun) (sym k_is)
        (subst (λ (s : HeadSet). Counts 0 (total_of (get_or given at d)) s.begun) (sym (get_or-set_same sets at new d low))
        (subst (λ (s : HeadSet). Counts 0 (total_of s) new.begun) (is ∙ own d ∙ rest at d (omega arith)) here))
  ]
    where
      own : (d : HeadSet) → get_or sets at old ≡ get_or sets at d
      own d = get_or_default sets at old d low

  -- and those behind it are as they were
  pub rest-step : ((k : ℕ) (d : HeadSet) → at ≤ k → get_or sets k d ≡ get_or given k d) → (k : ℕ) (d : HeadSet) → at + 1 ≤ k → get_or (set sets at new) k d ≡ get_or given k d
  rest-step rest k d l = get_or-set_other sets at k new d (λ e. let no : ⊥ = omega (arith, e, l) in no) ∙ rest k d (omega (arith, l))

-- a set whose total stays is put in the place of another
pub total-kept : (sets : List HeadSet) (i : ℕ) (old new : HeadSet) → old ≡ get_or sets i old → total_of new ≡ total_of old → sum_by total_of (set sets i new) ≡ sum_by total_of sets
total-kept [] i old new is same = refl
total-kept (s ∷ sets) zero old new is same = omega (arith, sum_by-cons total_of new sets, sum_by-cons total_of s sets, same, ap total_of is)
total-kept (s ∷ sets) (suc i) old new is same = omega (arith, sum_by-cons total_of s (set sets i new), sum_by-cons total_of s sets, total-kept sets i old new is same)

after : (m t b e u stepped effort now : ℕ) → stepped % m ≡ (0 + t) % m → b % m ≡ (0 + t) % m → u % m ≡ (b + e) % m → effort % m ≡ (0 + e) % m → now % m ≡ (stepped + effort) % m → now % m ≡ (0 + u) % m
after m t b e u stepped effort now p q grown r s =
    s ∙ zero_in m t stepped e effort p r ∙ sym (ap (λ x. x % m) (none u) ∙ grown ∙ (sym (mod-add-mod b m e) ∙ ap (λ x. (x + e) % m) q ∙ mod-add-mod (0 + t) m e) ∙ ap (λ x. x % m) (more t e))
  where
    none : (x : ℕ) → 0 + x ≡ x
    none x = omega arith

    more : (x y : ℕ) → 0 + x + y ≡ 0 + (x + y)
    more x y = omega arith

grew : (m t b e u : ℕ) → b % m ≡ (0 + t) % m → u % m ≡ (b + e) % m → u % m ≡ (t + e) % m
grew m t b e u p q = q ∙ sym (mod-add-mod b m e) ∙ ap (λ x. (x + e) % m) p ∙ mod-add-mod (0 + t) m e ∙ ap (λ x. x % m) (none t e)
  where
    none : (x y : ℕ) → 0 + x + y ≡ x + y
    none x y = omega arith

-- The total goes on with what the last path took, and with the comparisons of heads: from the total before the sets were asked to that of the sets after the last question.
pub total-after : (old asked last : List HeadSet) (compared more compares stepped effort now : ℕ) → Counts 0 (sum_by total_of old + compared) stepped
    → Counts 0 (sum_by total_of old) (sum_by (λ (s : HeadSet). s.begun) asked) → begins_of last ≡ begins_of asked → Counts compared more compares → Counts 0 (sum_by effort_of last) effort
    → Counts stepped ((effort + more) % 2 ^ 128) now → Counts 0 (sum_by total_of last + compares) now
total-after old asked last compared more compares stepped effort now was begins same counts took goes =
    let grown = grew (2 ^ 128) (sum_by total_of old) (sum_by (λ (s : HeadSet). s.begun) last) (sum_by effort_of last) (sum_by total_of last)
    (ap (λ k. k % 2 ^ 128) (same-begin asked last same) ∙ begins) (sums-grow last) in
    let both = counts-both (sum_by total_of old) (sum_by effort_of last) (sum_by total_of last) compared more compares grown counts in
    let took_both : Counts 0 (sum_by effort_of last + more) ((effort + more) % 2 ^ 128) = mod-mod (effort + more) (2 ^ 128) ∙ counts-all (sum_by effort_of last) effort more more took (ap (λ k. k % 2 ^ 128) (plus_none more)) in
    after (2 ^ 128) (sum_by total_of old + compared) (sum_by total_of old + compared) (sum_by effort_of last + more) (sum_by total_of last + compares) stepped ((effort + more) % 2 ^ 128) now was
    (ap (λ k. k % 2 ^ 128) (plus_none (sum_by total_of old + compared))) both took_both goes
  where
    plus_none : (x : ℕ) → x ≡ 0 + x
    plus_none x = omega arith
