mod Inverses
mod Karatsuba
mod OneOctant
mod Ratios
mod Shifts
mod Table
