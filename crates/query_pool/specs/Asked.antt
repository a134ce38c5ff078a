-- Which queries are kept, and what each counts.
use Rattle.std.specs.Prelude.{◌≡◌, ℕ, ◌+◌, ◌≤◌, nat_le, nat_lt, ◌&&◌, List, [], ◌∷◌, ◌++◌, Option, Some, if◌then◌else◌, sum_by, unwrap_or, MatchBool}
use Rattle.std.specs.BTreeMap.{insert_entry, is_at}
use Rattle.std.specs.Map.{lookup, remove_entry}
use Rattle.std.specs.Ordering.{nat_cmp}
use Rattle.vk_types.specs.declared.message.QueryMark.{QueryMark}
use Rattle.vk_types.specs.declared.message.QueryValue.{QueryValue}
use Rattle.query_pool.specs.declared.queries.Ended.{Ended}

-- the queries that are begun, each with the first command that it counts, by rising query, those that are ended and not answered,
-- in the order of their Ends, and how many invocations were counted of each command, by rising command
pub record Asked : Type 0 where
  pub begun : List (ℕ × ℕ)
  pub ended : List Ended
  pub counts : List (ℕ × ℕ)

-- the first command that this query counts, if it is begun
abbrev pub begun_at : ℕ → List (ℕ × ℕ) → Option ℕ
begun_at query begun = lookup (is_at (nat_cmp query)) begun

-- the invocations of a command whose number is from `from` on and below `to`, else 0
abbrev pub part_between : ℕ → ℕ → ℕ × ℕ → ℕ
part_between from to e = if nat_le from e.0 && nat_lt e.0 to then e.1 else 0

-- so many invocations were run by the commands from `from` up to the one before `to`
abbrev pub invocations_between : ℕ → ℕ → List (ℕ × ℕ) → ℕ
invocations_between from to counts = sum_by (part_between from to) counts

-- the invocations of all commands
abbrev pub invocations_of : List (ℕ × ℕ) → ℕ
invocations_of counts = sum_by (λ e. e.1) counts

-- what was counted of a command
abbrev pub counted_of : ℕ → List (ℕ × ℕ) → ℕ
counted_of command counts = unwrap_or (lookup (is_at (nat_cmp command)) counts) 0

-- so many invocations more of a command
abbrev pub counted_more : List (ℕ × ℕ) → (command invocations : ℕ) → List (ℕ × ℕ)
counted_more counts command invocations = insert_entry nat_cmp counts command (counted_of command counts + invocations)

-- the query is begun
abbrev pub begins : QueryMark → Asked → Asked
begins m old = record old { begun = insert_entry nat_cmp old.begun m.query m.before }

-- the query was begun, and is ended
pub record Ends (m : QueryMark) (old new : Asked) : Type 0 where
  pub from : ℕ
  pub is_begun : begun_at m.query old.begun ≡ Some from
  pub begun : new.begun ≡ remove_entry (is_at (nat_cmp m.query)) old.begun
  pub ended : new.ended ≡ old.ended ++ record { call = m.call; query = m.query; from = from; to = m.before } ∷ []
  pub counts : new.counts ≡ old.counts

abbrev pub Marks : QueryMark → Asked → Asked → Type 0
Marks m old new = MatchBool m.begins (new ≡ begins m old) (Ends m old new)

-- the query that was ended first has this value, and goes
pub record Answered (upto : ℕ) (old : Asked) (v : QueryValue) (new : Asked) : Type 0 where
  pub ended : Ended
  pub first : old.ended ≡ ended ∷ new.ended
  pub reached : ended.call ≤ upto
  pub value : v ≡ record { call = ended.call; query = ended.query; value = invocations_between ended.from ended.to old.counts }
  pub begun : new.begun ≡ old.begun
  pub counts : new.counts ≡ old.counts
