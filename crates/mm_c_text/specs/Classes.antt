-- The classes of tokens in memory, and their numbers.
use Rattle.std.specs.Prelude.{ℕ, List}
use Rattle.mm_c_text.specs.declared.class.Class.{Class}
use Rattle.mm_c_text.specs.declared.class.Class.TheVariants as class
use Rattle.mm_c_text.specs.declared.class.Entry.{Entry}

abbrev pub number_of : Class → ℕ
number_of class.Name = 0
number_of class.Put = 1
number_of class.Get = 2
number_of class.More = 3
number_of class.Trap = 4
number_of class.New = 5
number_of class.Zero = 10
number_of class.ZeroUnsigned = 11
number_of class.One = 12
number_of class.Largest = 13
number_of class.Number = 14
number_of class.Open = 20
number_of class.Close = 21
number_of class.OpenBrace = 22
number_of class.CloseBrace = 23
number_of class.OpenBracket = 24
number_of class.CloseBracket = 25
number_of class.Semicolon = 26
number_of class.Comma = 27
number_of class.Assign = 28
number_of class.Star = 29
number_of class.Plus = 30
number_of class.Minus = 31
number_of class.Slash = 32
number_of class.Percent = 33
number_of class.Less = 34
number_of class.Greater = 35
number_of class.LessEqual = 36
number_of class.GreaterEqual = 37
number_of class.EqualEqual = 38
number_of class.NotEqual = 39
number_of class.Typedef = 40
number_of class.Static = 41
number_of class.Const = 42
number_of class.Inline = 43
number_of class.Void = 44
number_of class.Int = 45
number_of class.Unsigned = 46
number_of class.Long = 47
number_of class.Char = 48
number_of class.Short = 49
number_of class.If = 50
number_of class.Else = 51
number_of class.While = 52
number_of class.Break = 53
number_of class.Continue = 54
number_of class.Return = 55
number_of class.Extern = 56
number_of class.Unknown = 99
number_of class.End = 100

-- an entry of the table of words and marks
abbrev pub entry_of : Entry → List ℕ × ℕ
entry_of e = (e.text.now, number_of e.class)
