-- Members by their names. Own.
use Rattle.std.specs.Prelude.{◌≡◌, ℕ, ◌+◌, ◌<◌, List, length, get_or, Option, None, String}
use Rattle.indexmap.specs.IndexMap.{IndexMap, get_by_text}
use Rattle.mm_classes.specs.declared.class.Member.{Member}
use Rattle.mm_classes.specs.Classes.{member_name, IsNextNamed}

-- `first` has for each name the first member of it, and `next` for each member the next one of its name
pub record AreNamed {A S : Type 0} (first : IndexMap (String A) ℕ S) (next : List (Option ℕ)) (ms : List Member) : Type 0 where
  pub long : length next ≡ length ms
  pub start : (name : List ℕ) → IsNextNamed (get_by_text first name) ms name 0
  pub more : (k : ℕ) → k < length ms → IsNextNamed (get_or next k None) ms (member_name ms k) (k + 1)
