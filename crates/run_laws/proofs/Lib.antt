mod Damages
mod Brought
mod Endings
mod Accounts
mod Parting
mod Fixed
mod Doubted
