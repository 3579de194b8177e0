-- The laws that callers may rely on.
use Rattle.std.proofs.Common.{ℕ, List}
use Rattle.mm_classes.specs.Classes.{Class, IsClassList}
use Rattle.mm_classes.specs.Laws.{AreNodes, Composes}
use Rattle.mm_classes.proofs.Subs.{subobjects_are, are_subobjects, subobjects-Distinct}
use Rattle.mm_classes.proofs.Compose.{compose-sub, compose-end, compose-assoc, compose-apart, within-self, within-within, within-same}

pub nodes_stand : (g : List Class) (ok : IsClassList g) (d : ℕ) → AreNodes g d
nodes_stand g ok d = record { sound = subobjects_are g ok d; whole = are_subobjects g ok d; once = subobjects-Distinct g ok d }

pub composes : (g : List Class) (ok : IsClassList g) → Composes g
composes g ok = record {
  closed = compose-sub g;
  ends = compose-end g;
  associates = compose-assoc g ok;
  apart = compose-apart g ok;
  itself = within-self g ok;
  through = within-within g ok;
  both = within-same g ok;
}
