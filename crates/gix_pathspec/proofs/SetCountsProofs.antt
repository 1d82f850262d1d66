-- What sets count.
use Rattle.std.proofs.Common.{◌≡◌, ℕ, ◌+◌, ◌*◌, ◌%◌, ◌^◌, ◌≤◌, sym, ◌∙◌, ap, subst, arith, add_assoc, List, [], ◌∷◌, ◌++◌, Option, length, length-append}
use Rattle.std.proofs.Math.Nat.{mod-add-mod, mod-mod}
use Rattle.pathspec_glob.specs.Counts.{Counts}
use Rattle.pathspec_glob_set.specs.declared.set.SetScratch.{SetScratch}
use Rattle.pathspec_glob_set.specs.Tables.{AreFewSteps}
use Rattle.gix_pathspec.specs.Bytes.{slash}
use Rattle.pathspec_glob_set.specs.Answers.{set_in, CountsLooks}
use Rattle.gix_pathspec.specs.SetCounts.{GrowsBy}

add_in : (m a n b k c : ℕ) → b % m ≡ (a + n) % m → c % m ≡ (b + k) % m → c % m ≡ (a + (n + k)) % m
add_in m a n b k c p q = q ∙ (sym (mod-add-mod b m k) ∙ (ap (λ x. (x + k) % m) p ∙ (mod-add-mod (a + n) m k ∙ ap (λ x. x % m) (add_assoc a n k))))

-- what was counted first, and what was counted then, were counted together
pub counts-then : (a n b k c : ℕ) → Counts a n b → Counts b k c → Counts a (n + k) c
counts-then a n b k c p q = add_in (2 ^ 128) a n b k c p q

beside : (m a n b c : ℕ) → b % m ≡ (a + n) % m → ((b + c) % m) % m ≡ ((a + c) % m + n) % m
beside m a n b c p =
    mod-mod (b + c) m ∙ (sym (mod-add-mod b m c) ∙ (ap (λ x. (x + c) % m) p ∙ (mod-add-mod (a + n) m c ∙ (ap (λ x. x % m) (swap a n c) ∙ sym (mod-add-mod (a + c) m n)))))
  where
    swap : (x y z : ℕ) → x + y + z ≡ x + z + y
    swap x y z = omega arith

-- what is counted in one of two totals is counted in both together
pub counts-beside : (a n b c : ℕ) → Counts a n b → Counts ((a + c) % 2 ^ 128) n ((b + c) % 2 ^ 128)
counts-beside a n b c p = beside (2 ^ 128) a n b c p

pub counts-behind : (a n b c : ℕ) → Counts a n b → Counts ((c + a) % 2 ^ 128) n ((c + b) % 2 ^ 128)
counts-behind a n b c p = subst (λ k. Counts (k % 2 ^ 128) n ((c + b) % 2 ^ 128)) (flip a c) (subst (λ k. Counts ((a + c) % 2 ^ 128) n (k % 2 ^ 128)) (flip b c) (counts-beside a n b c p))
  where
    flip : (x y : ℕ) → x + y ≡ y + x
    flip x y = omega arith

-- what grew by few grew by no more than more
pub grows-few : (most more a b : ℕ) → most ≤ more → GrowsBy most a b → GrowsBy more a b
grows-few most more a b low p = record { by = p.by; few = omega (arith, p.few, low); counted = p.counted }

-- growths add up
pub grows-then : (most more a b c : ℕ) → GrowsBy most a b → GrowsBy more b c → GrowsBy (most + more) a c
grows-then most more a b c p q = record { by = p.by + q.by; few = omega (arith, p.few, q.few); counted = counts-then a p.by b q.by c p.counted q.counted }

-- what a directory and its slash cost to read
pub few-read : (places : ℕ) (d : List ℕ) (before : ℕ) (new : SetScratch) → AreFewSteps places (length (d ++ slash ∷ [])) new.table → Counts before new.table.steps new.total
    → GrowsBy ((length d + 1) * (places + 2)) before new.total
few-read places d before new few counted =
    let size : length (d ++ slash ∷ []) ≡ length d + 1 = length-append d (slash ∷ []) in
    let same : length (d ++ slash ∷ []) * (places + 2) ≡ (length d + 1) * (places + 2) = ap (λ k. k * (places + 2)) size in
    record { by = new.table.steps; few = omega (arith, few.bound, same); counted = counted }

-- one question looks at each glob once at most
pub one-look : (old new : SetScratch) (found : Option ℕ) → CountsLooks (set_in old) 0 found 0 old new → GrowsBy (length old.table.moves.ends.items) old.total new.total
one-look old new found counts =
    let none : 0 + new.looks ≡ new.looks = omega arith in
    record { by = new.looks; few = omega (arith, counts.looks.within); counted = subst (λ k. Counts old.total k new.total) none counts.total }
