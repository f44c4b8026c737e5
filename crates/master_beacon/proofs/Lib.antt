mod Fronts
mod Risen
mod RuleKept
