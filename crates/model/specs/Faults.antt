-- Faults, and the first of several.
use Rattle.std.specs.Prelude.{ℕ, ◌+◌, Some, None, Option}

-- A fault has a number, the kind of the table that it is met in, and a place.
pub record Fault : Type 0 where
  pub number : ℕ
  pub kind : ℕ
  pub place : ℕ

abbrev pub fault : ℕ → ℕ → ℕ → Option Fault
fault n k p = Some (record { number = n; kind = k; place = p })

-- the first fault, or else the second
abbrev pub or_then : Option Fault → Option Fault → Option Fault
or_then None g = g
or_then (Some f) g = Some f

-- a fault with n added to its place
abbrev pub shifted : ℕ → Option Fault → Option Fault
shifted n None = None
shifted n (Some f) = Some (record { number = f.number; kind = f.kind; place = n + f.place })
